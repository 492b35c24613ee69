-- A head of the grammar at the front of some bytes is what a reading gives.
use Rattle.std.proofs.Common.{◌≡◌, ℕ, zero, suc, ◌+◌, ◌≤◌, Bool, true, false, List, [], ◌∷◌, ◌++◌, length, take, Option, Some, None, refl, sym, ap, ◌∙◌, subst}
use Rattle.std.proofs.Common.{inl, inr, arith, append_assoc, append-nil, length-append}
use Rattle.std.specs.Prelude.{All}
use Rattle.std.specs.List.{flat_map}
use Rattle.std.specs.Char.{is_ascii_digit}
use Rattle.std.proofs.lemmas.Bool.{cases_Bool, false≢true, and_cases, not-false, eqb-true}
use Rattle.std.proofs.lemmas.List.{take_at}
use Rattle.std.proofs.lemmas.List.Elements.{All-cons, All-nil, All-append, All-weaker}
use Rattle.std.proofs.lemmas.List.Sums.{AllPass-from_list_all}
use Rattle.httparse.specs.Ascii.{line_feed, carriage_return, colon, space}
use Rattle.httparse.specs.Grammar.{AllPass, is_token_byte, is_uri_byte, is_value_byte, LineEnd, print_end, print_blank, print_version, Field, IsField}
use Rattle.httparse.specs.Grammar.{print_field, RequestHead, IsRequestHead, ReadsRequest, print_request, ResponseHead, IsResponseHead, ReadsResponse}
use Rattle.httparse.specs.Grammar.{print_response, print_reason, reason_phrase}
use Rattle.httparse.proofs.GrammarLemmas.{print_request-append, print_response-append}
use Rattle.radio_heads.specs.Head.{ShowsRequest, request_parts}
use Rattle.radio_heads.specs.Response.{ShowsResponse, response_parts}
use Rattle.radio_heads.specs.Reading.{IsHead}
use Rattle.radio_heads.specs.Search.{is_text, IsHeadEnd}
use Rattle.radio_heads.proofs.LineLemmas.{IsLineText, AreLines, field_text, lines_text, lines_length, lines_text_is}
use Rattle.radio_heads.proofs.EndLemmas.{lines_are_front}

-- ---- text of the grammar

-- a class of bytes without CR and LF has text alone
pub text_from : (test : ℕ → Bool) → test line_feed ≡ false → test carriage_return ≡ false
    → (b : ℕ) → test b ≡ true → is_text b ≡ true
text_from test no_lf no_cr b passes = elim (cases_Bool (is_text b)) [
  | inl text ↦ text
  | inr other ↦ absurd (elim (and_cases _ _ other) [
    | inl cr ↦ false≢true (sym no_cr ∙ (ap test (sym (eqb-true b carriage_return (not-false _ cr))) ∙ passes))
    | inr feed ↦ false≢true (sym no_lf ∙ (ap test (sym (eqb-true b line_feed (not-false _ feed))) ∙ passes))
  ])
]

pub text_of : (test : ℕ → Bool) → test line_feed ≡ false → test carriage_return ≡ false
    → (bytes : List ℕ) → AllPass test bytes → AllPass is_text bytes
text_of test no_lf no_cr bytes all =
    All-weaker (λ b. test b ≡ true) (λ b. is_text b ≡ true) (text_from test no_lf no_cr) bytes all

pub token_text : (bytes : List ℕ) → AllPass is_token_byte bytes → AllPass is_text bytes
unfolding is_token_byte
token_text = text_of is_token_byte refl refl

pub value_text : (bytes : List ℕ) → AllPass is_value_byte bytes → AllPass is_text bytes
value_text = text_of is_value_byte refl refl

pub version_text : (minor : ℕ) → minor ≤ 1 → AllPass is_text (print_version minor)
version_text zero le = AllPass-from_list_all is_text (print_version 0) refl
version_text (suc zero) le = AllPass-from_list_all is_text (print_version 1) refl
version_text (suc (suc n)) le = absurd (omega arith)

-- what is joined by a byte of text is text
pub joined_text : (a b : List ℕ) (c : ℕ) → is_text c ≡ true → AllPass is_text a → AllPass is_text b → AllPass is_text (a ++ c ∷ b)
joined_text a b c sign left right =
    All-append (λ x. is_text x ≡ true) a (c ∷ b) left (All-cons (λ x. is_text x ≡ true) c b sign right)

pub field_lines : (fields : List Field) → All IsField fields → All (λ f. IsLineText (field_text f)) fields
field_lines fields all = All-weaker IsField (λ f. IsLineText (field_text f)) (λ f h. record {
  some = omega (arith, length-append f.name (colon ∷ f.raw), h.name.0);
  clean = joined_text f.name f.raw colon refl (token_text f.name h.name.1) (value_text f.raw h.raw);
}) fields all

-- how long lines are, with what follows them
pub length-lines_text : (text : List ℕ) (end : LineEnd) (fields : List Field) (tail : List ℕ)
    → length (lines_text text end fields tail) ≡ lines_length text end fields + length tail
length-lines_text text end [] tail =
    omega (arith, length-append text (print_end end ++ tail), length-append (print_end end) tail)
length-lines_text text end (f ∷ fields) tail =
    omega (
      arith,
      length-append text (print_end end ++ lines_text (field_text f) f.end fields tail),
      length-append (print_end end) (lines_text (field_text f) f.end fields tail),
      length-lines_text (field_text f) f.end fields tail,
    )

-- a head that is written as empty lines, lines with text and an empty line is a front
pub front_of_lines : (bytes head rest : List ℕ) (blank : List LineEnd) (text : List ℕ) (end : LineEnd) (fields : List Field) (last : LineEnd)
    → AreLines text fields → bytes ≡ head ++ rest
    → ((more : List ℕ) → head ++ more ≡ print_blank blank ++ lines_text text end fields (print_end last ++ more))
    → IsHeadEnd bytes (length head)
front_of_lines bytes head rest blank text end fields last lines is form =
    let size : length head ≡ length (print_blank blank) + (lines_length text end fields + length (print_end last))
    = omega (
      arith,
      length-append head [],
      ap length (form []),
      length-append (print_blank blank) (lines_text text end fields (print_end last ++ [])),
      length-lines_text text end fields (print_end last ++ []),
      length-append (print_end last) [],
    ) in
    subst (λ (xs : List ℕ). IsHeadEnd xs (length head)) (sym (is ∙ form rest))
    (subst (λ (n : ℕ). IsHeadEnd (print_blank blank ++ lines_text text end fields (print_end last ++ rest)) n) (sym size)
    (lines_are_front blank text end fields last rest lines))

-- ---- requests

-- the request line
abbrev pub request_text : RequestHead → List ℕ
request_text h = h.method ++ space ∷ (h.target ++ space ∷ print_version h.minor)

pub request_lines : (h : RequestHead) (rest : List ℕ) → print_request h ++ rest
    ≡ print_blank h.blank ++ lines_text (request_text h) h.line_end h.fields (print_end h.last ++ rest)
request_lines h rest =
    print_request-append h rest
    ∙ ap (λ (more : List ℕ). print_blank h.blank ++ more)
    (regroup h.method h.target (print_version h.minor) (print_end h.line_end) (flat_map print_field h.fields) (print_end h.last) rest
    ∙ sym (lines_text_is (request_text h) h.line_end h.fields (print_end h.last ++ rest)))
  where
    regroup : (m t v e f l r : List ℕ)
        → m ++ 32 ∷ (t ++ 32 ∷ (v ++ (e ++ ((f ++ l) ++ r)))) ≡ (m ++ 32 ∷ (t ++ 32 ∷ v)) ++ (e ++ (f ++ (l ++ r)))
    regroup m t v e f l r = simp append_assoc

pub request_are_lines : (h : RequestHead) → IsRequestHead h → AreLines (request_text h) h.fields
request_are_lines h x = record {
  first = record {
    some = omega (arith, length-append h.method (space ∷ (h.target ++ space ∷ print_version h.minor)));
    clean = joined_text h.method (h.target ++ space ∷ print_version h.minor) space refl (token_text h.method x.method.1)
        (joined_text h.target (print_version h.minor) space refl (text_of is_uri_byte refl refl h.target x.target.1) (version_text h.minor x.minor));
  };
  others = field_lines h.fields x.fields;
}

pub request_is_head : (bytes rest : List ℕ) (h : RequestHead) → ReadsRequest bytes h rest
    → length h.fields ≤ 64 → length (print_request h) ≤ 8192
    → IsHead ShowsRequest bytes (request_parts h) (length (print_request h))
request_is_head bytes rest h x few short = record {
  front = record {
    end = front_of_lines bytes (print_request h) rest h.blank (request_text h) h.line_end h.fields h.last
        (request_are_lines h x.0) x.1 (request_lines h);
    short = short;
  };
  shows = (h, (x.0, ap (take (length (print_request h))) x.1 ∙ (take_at (print_request h) rest _ refl ∙ sym (append-nil (print_request h)))), few, refl);
}

-- ---- responses

-- the status line
abbrev pub response_text : ResponseHead → List ℕ
response_text h = print_version h.minor ++ space ∷ (h.digits ++ print_reason h.reason)

pub response_lines : (h : ResponseHead) (rest : List ℕ) → print_response h ++ rest
    ≡ print_blank h.blank ++ lines_text (response_text h) h.line_end h.fields (print_end h.last ++ rest)
response_lines h rest =
    print_response-append h rest
    ∙ ap (λ (more : List ℕ). print_blank h.blank ++ more)
    (regroup (print_version h.minor) h.digits (print_reason h.reason) (print_end h.line_end) (flat_map print_field h.fields) (print_end h.last) rest
    ∙ sym (lines_text_is (response_text h) h.line_end h.fields (print_end h.last ++ rest)))
  where
    regroup : (v d s e f l r : List ℕ)
        → v ++ 32 ∷ (d ++ (s ++ (e ++ ((f ++ l) ++ r)))) ≡ (v ++ 32 ∷ (d ++ s)) ++ (e ++ (f ++ (l ++ r)))
    regroup v d s e f l r = simp append_assoc

pub reason_text : (reason : Option (List ℕ)) → AllPass is_value_byte (reason_phrase reason) → AllPass is_text (print_reason reason)
reason_text None h = All-nil (λ b. is_text b ≡ true)
reason_text (Some phrase) h = All-cons (λ b. is_text b ≡ true) space phrase refl (value_text phrase h)

pub response_are_lines : (h : ResponseHead) → IsResponseHead h → AreLines (response_text h) h.fields
response_are_lines h x = record {
  first = record {
    some = omega (arith, length-append (print_version h.minor) (space ∷ (h.digits ++ print_reason h.reason)));
    clean = joined_text (print_version h.minor) (h.digits ++ print_reason h.reason) space refl (version_text h.minor x.minor)
        (All-append (λ b. is_text b ≡ true) h.digits (print_reason h.reason)
        (text_of is_ascii_digit refl refl h.digits x.digits.1) (reason_text h.reason x.reason));
  };
  others = field_lines h.fields x.fields;
}

pub response_is_head : (bytes rest : List ℕ) (h : ResponseHead) → ReadsResponse bytes h rest
    → length h.fields ≤ 64 → length (print_response h) ≤ 8192
    → IsHead ShowsResponse bytes (response_parts h) (length (print_response h))
response_is_head bytes rest h x few short = record {
  front = record {
    end = front_of_lines bytes (print_response h) rest h.blank (response_text h) h.line_end h.fields h.last
        (response_are_lines h x.0) x.1 (response_lines h);
    short = short;
  };
  shows = (h, (x.0, ap (take (length (print_response h))) x.1 ∙ (take_at (print_response h) rest _ refl ∙ sym (append-nil (print_response h)))), few, refl);
}
