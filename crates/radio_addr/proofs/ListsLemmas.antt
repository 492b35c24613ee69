-- The lines of a list, by one cut.
use Rattle.std.proofs.Common.{◌≡◌, ℕ, ◌+◌, ◌<◌, ◌≤◌, [], ◌∷◌, List, length, Result, Ok, refl, arith, ap, ◌∙◌, sym, subst, ⊎_elim}
use Rattle.std.proofs.lemmas.List.{nil_from_length, append-nil}
use Rattle.std.proofs.lemmas.Bool.{cases_lt}
use Rattle.radio_texts.specs.Cuts.{fields_at}
use Rattle.radio_texts.specs.Blanks.{without_blanks}
use Rattle.radio_addr.specs.Lists.{line_of, lines_after, with_line, after_ranges, Explains, FaultsLine, AddsLine}
use Rattle.radio_addr.specs.declared.lines.AddressRange.{AddressRange}
use Rattle.radio_addr.specs.declared.lines.ListLine.TheVariants.{Passed, Bad}
use Rattle.radio_addr.specs.declared.lists.ListFault.{ListFault}

line_of-nil : line_of [] ≡ Passed
unfolding line_of without_blanks
line_of-nil = refl

-- a bad line is not empty
pub bad_line : (line : List ℕ) → Bad ≡ line_of line → 0 < length line
bad_line line bad = ⊎_elim
    (λ (some : 0 < length line). some)
    (λ (none : length line ≤ 0).
    let empty : line ≡ [] = nil_from_length line (omega arith) in
    let passed : Bad ≡ Passed = bad ∙ (ap line_of empty ∙ line_of-nil) in
    cc)
    (cases_lt 0 (length line))

pub lines_at_cut : (n : ℕ) (rest line later : List ℕ) → fields_at 10 rest ≡ line ∷ fields_at 10 later
    → lines_after n (fields_at 10 rest) ≡ with_line n (line_of line) (lines_after (n + 1) (fields_at 10 later))
lines_at_cut n rest line later at = ap (lines_after n) at

pub lines_at_end : (n : ℕ) (rest : List ℕ) → fields_at 10 rest ≡ rest ∷ [] → lines_after n (fields_at 10 rest) ≡ with_line n (line_of rest) (Ok [])
lines_at_end n rest at = ap (lines_after n) at

-- one line more, and the last one
pub line_more : (n : ℕ) (rest line later : List ℕ) (old new : List AddressRange) (all : Result (List AddressRange) ℕ)
    → fields_at 10 rest ≡ line ∷ fields_at 10 later → AddsLine old n line new → after_ranges old (lines_after n (fields_at 10 rest)) ≡ all
    → after_ranges new (lines_after (n + 1) (fields_at 10 later)) ≡ all
line_more n rest line later old new all at adds so_far =
    adds (lines_after (n + 1) (fields_at 10 later)) ∙ (ap (after_ranges old) (sym (lines_at_cut n rest line later at)) ∙ so_far)

pub line_last : (n : ℕ) (rest : List ℕ) (old new : List AddressRange) (all : Result (List AddressRange) ℕ) → fields_at 10 rest ≡ rest ∷ []
    → AddsLine old n rest new → after_ranges old (lines_after n (fields_at 10 rest)) ≡ all → all ≡ Ok new
line_last n rest old new all at adds so_far =
    sym so_far ∙ (ap (after_ranges old) (lines_at_end n rest at) ∙ (sym (adds (Ok [])) ∙ ap (λ (t : List AddressRange). Ok t) (append-nil new)))

-- a fault of a line is the list's
pub fault_more : (n : ℕ) (rest line later : List ℕ) (old : List AddressRange) (all : Result (List AddressRange) ℕ) (fault : ListFault)
    → fields_at 10 rest ≡ line ∷ fields_at 10 later → FaultsLine n line fault → after_ranges old (lines_after n (fields_at 10 rest)) ≡ all → Explains all fault
fault_more n rest line later old all fault at faults so_far =
    subst (λ (r : Result (List AddressRange) ℕ). Explains r fault) (ap (after_ranges old) (sym (lines_at_cut n rest line later at)) ∙ so_far)
    (faults old (lines_after (n + 1) (fields_at 10 later)))

pub fault_last : (n : ℕ) (rest : List ℕ) (old : List AddressRange) (all : Result (List AddressRange) ℕ) (fault : ListFault)
    → fields_at 10 rest ≡ rest ∷ [] → FaultsLine n rest fault → after_ranges old (lines_after n (fields_at 10 rest)) ≡ all → Explains all fault
fault_last n rest old all fault at faults so_far =
    subst (λ (r : Result (List AddressRange) ℕ). Explains r fault) (ap (after_ranges old) (sym (lines_at_end n rest at)) ∙ so_far) (faults old (Ok []))
