-- Every head of the grammar ends where the rule for ends says.
use Rattle.std.proofs.Common.{◌≡◌, ℕ, suc, ◌+◌, ◌-◌, ◌<◌, inl, inr, true, false, List, [], ◌∷◌, ◌++◌, length, refl, sym, ap, ◌∙◌, subst, arith}
use Rattle.std.specs.Prelude.{slice_index, All}
use Rattle.std.proofs.lemmas.Bool.{both_ways, false≢true, cases_lt}
use Rattle.std.proofs.lemmas.List.{get_or-append-add, get_or_append_left}
use Rattle.std.proofs.lemmas.List.Elements.{All-nil, All-cons, All-get_or}
use Rattle.httparse.specs.Ascii.{line_feed, carriage_return}
use Rattle.httparse.specs.Grammar.{LineEnd, crlf, lf, print_end, print_blank, Field}
use Rattle.radio_heads.specs.Search.{is_text, IsEmptyLine, EndsAt, IsHeadEnd}
use Rattle.radio_heads.proofs.LineLemmas.{AreLines, lines_text, lines_length, lines_length-low, lines_begin, lines_tail, lines_end, lines_unbroken}

-- a byte that is no text
abbrev pub IsNoText : ℕ → Type 0
IsNoText b = is_text b ≡ false

-- empty lines have no text
pub blank_no_text : (blank : List LineEnd) → All IsNoText (print_blank blank)
blank_no_text [] = All-nil IsNoText
blank_no_text (crlf ∷ blank) =
    All-cons IsNoText carriage_return (line_feed ∷ print_blank blank) refl
    (All-cons IsNoText line_feed (print_blank blank) refl (blank_no_text blank))
blank_no_text (lf ∷ blank) = All-cons IsNoText line_feed (print_blank blank) refl (blank_no_text blank)

-- an empty line, after so many bytes
pub IsEmptyLine-end : (bytes : List ℕ) (start : ℕ) (last : LineEnd) (rest : List ℕ)
    → ((k : ℕ) → slice_index bytes (start + k) ≡ slice_index (print_end last ++ rest) k)
    → IsEmptyLine bytes start (start + length (print_end last))
IsEmptyLine-end bytes start crlf rest same = inr (subst (λ (n : ℕ). slice_index bytes n ≡ carriage_return) (omega arith) (same 0), same 1, refl)
IsEmptyLine-end bytes start lf rest same = inl (subst (λ (n : ℕ). slice_index bytes n ≡ line_feed) (omega arith) (same 0), refl)

-- where text follows an LF, no head ends
pub broken : (bytes : List ℕ) (place end : ℕ) → EndsAt bytes place end → is_text (slice_index bytes (place + 1)) ≡ true → ⊥
broken bytes place end h text = elim (h.empty) [
  | inl p ↦ false≢true (sym (ap is_text p.0) ∙ text)
  | inr p ↦ false≢true (sym (ap is_text p.0) ∙ text)
]

-- empty lines, lines with text and an empty line are a front
pub lines_are_front : (blank : List LineEnd) (text : List ℕ) (end : LineEnd) (fields : List Field) (last : LineEnd) (rest : List ℕ)
    → AreLines text fields
    → IsHeadEnd (print_blank blank ++ lines_text text end fields (print_end last ++ rest))
    (length (print_blank blank) + (lines_length text end fields + length (print_end last)))
lines_are_front blank text end fields last rest h =
    let front : List ℕ = print_blank blank in
    let lines : List ℕ = lines_text text end fields (print_end last ++ rest) in
    let size : ℕ = lines_length text end fields in
    let at : (k : ℕ) → slice_index (front ++ lines) (length front + k) ≡ slice_index lines k
    = λ k. get_or-append-add front lines k 0 in
    let low = lines_length-low text end fields h in
    record {
      place = length front + (size - 1);
      ends = record {
        text = (length front + 0, omega arith, ap is_text (at 0) ∙ lines_begin text end fields _ h);
        line = at (size - 1) ∙ lines_end text end fields _ h;
        empty = subst (λ (start : ℕ). IsEmptyLine (front ++ lines) start (length front + (size + length (print_end last)))) (omega arith)
            (subst (λ (n : ℕ). IsEmptyLine (front ++ lines) (length front + size) n) (omega arith)
            (IsEmptyLine-end (front ++ lines) (length front + size) last rest
            (λ k. ap (slice_index (front ++ lines)) (omega arith) ∙ (at (size + k) ∙ lines_tail text end fields (print_end last ++ rest) k))));
      };
      first = λ earlier other lt there. elim (cases_lt earlier (length front + 1)) [
        | inl before ↦ both_ways _
            (let k = there.text.0 in
            let short : k < length front = omega (arith, there.text.1) in
            ap is_text (get_or_append_left front lines 0 k short) ∙ All-get_or IsNoText front k 0 short (blank_no_text blank))
            there.text.2
        | inr after ↦ broken (front ++ lines) earlier other there
            (let k : ℕ = earlier - length front in
            let here : earlier ≡ length front + k = omega arith in
            let next : earlier + 1 ≡ length front + suc k = omega arith in
            ap is_text (ap (slice_index (front ++ lines)) next ∙ at (suc k))
            ∙ lines_unbroken text end fields _ h k (omega arith) (sym (at k) ∙ (ap (slice_index (front ++ lines)) (sym here) ∙ there.line)))
      ];
    }
