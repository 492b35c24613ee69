-- How texts are cut, and how cuts make fields.
use Rattle.std.proofs.Common.{suc, ◌≡◌, ℕ, ◌+◌, ◌<◌, ◌≤◌, Bool, true, false, eqb, List, [], ◌∷◌, ◌++◌, length, take, drop, get_or, Option, None, Some}
use Rattle.std.proofs.Common.{MatchOption, refl, arith, ap, ◌∙◌, sym}
use Rattle.std.specs.Option.{option_map}
use Rattle.std.specs.List.{starts_with}
use Rattle.std.proofs.lemmas.Bool.{cond_both}
use Rattle.std.proofs.lemmas.List.{at_drop_more, at_drop_all, take_more, append_assoc, append-nil, drop_more}
use Rattle.radio_texts.specs.Cuts.{cut, cut_at_two, onto_front, onto_first, fields_at, fields_by}

abbrev pub Parts : Type 0
Parts = Option (List ℕ × List ℕ)

-- `cutter` cuts a text at the first place where `test` passes, and leaves the first `size` bytes there out
pub record IsCutter (cutter : List ℕ → Parts) (test : List ℕ → Bool) (size : ℕ) : Type 0 where
  pub empty : cutter [] ≡ None
  pub goes_on : (b : ℕ) (text : List ℕ) → test (b ∷ text) ≡ false → cutter (b ∷ text) ≡ onto_front b (cutter text)
  pub ends : (b : ℕ) (text : List ℕ) → test (b ∷ text) ≡ true → cutter (b ∷ text) ≡ Some ([], drop size (b ∷ text))

-- more in front of both parts
abbrev pub after_front : List ℕ → Parts → Parts
after_front front o = option_map (λ parts. (front ++ parts.0, parts.1)) o

pub after_front-nil : (o : Parts) → o ≡ after_front [] o
after_front-nil None = refl
after_front-nil (Some parts) = refl

after_front-onto : (front : List ℕ) (b : ℕ) (o : Parts) → after_front front (onto_front b o) ≡ after_front (front ++ b ∷ []) o
after_front-onto front b None = refl
after_front-onto front b (Some parts) = ap (λ (t : List ℕ). Some (t, parts.1)) (sym (append_assoc front (b ∷ []) parts.0))

pub cut_passed : (cutter : List ℕ → Parts) (test : List ℕ → Bool) (size : ℕ) (is : IsCutter cutter test size) (text : List ℕ) (i : ℕ) → i < length text
    → test (drop i text) ≡ false → cutter text ≡ after_front (take i text) (cutter (drop i text))
    → cutter text ≡ after_front (take (i + 1) text) (cutter (drop (i + 1) text))
cut_passed cutter test size is text i inside other so_far =
    let here = at_drop_more test text i 0 inside in
    let step = at_drop_more cutter text i 0 inside ∙ is.goes_on (get_or text i 0) (drop (i + 1) text) (sym here ∙ other) in
    so_far
    ∙ (ap (after_front (take i text)) step
    ∙ (after_front-onto (take i text) (get_or text i 0) (cutter (drop (i + 1) text))
    ∙ ap (λ f. after_front f (cutter (drop (i + 1) text))) (sym (take_more text i 0 inside))))

pub cut_found : (cutter : List ℕ → Parts) (test : List ℕ → Bool) (size : ℕ) (is : IsCutter cutter test size) (text : List ℕ) (i : ℕ) → i < length text
    → test (drop i text) ≡ true → cutter text ≡ after_front (take i text) (cutter (drop i text)) → Some (take i text, drop size (drop i text)) ≡ cutter text
cut_found cutter test size is text i inside passes so_far =
    let here = at_drop_more test text i 0 inside in
    let step = at_drop_more cutter text i 0 inside ∙ is.ends (get_or text i 0) (drop (i + 1) text) (sym here ∙ passes) in
    let back = ap (drop size) (drop_more text i 0 inside) in
    sym (so_far ∙ (ap (after_front (take i text)) step
    ∙ (ap (λ (t : List ℕ). Some (t, drop size (get_or text i 0 ∷ drop (i + 1) text))) (append-nil (take i text))
    ∙ ap (λ (t : List ℕ). Some (take i text, t)) (sym back))))

pub cut_missing : (cutter : List ℕ → Parts) (test : List ℕ → Bool) (size : ℕ) (is : IsCutter cutter test size) (text : List ℕ) (i : ℕ) → length text ≤ i
    → cutter text ≡ after_front (take i text) (cutter (drop i text)) → None ≡ cutter text
cut_missing cutter test size is text i past so_far =
    sym (so_far ∙ ap (after_front (take i text)) (at_drop_all cutter text i past ∙ is.empty))

-- the two cutters
abbrev pub begins_with : ℕ → List ℕ → Bool
begins_with c text = eqb (get_or text 0 0) c

pub cut-is : (c : ℕ) → IsCutter (cut c) (begins_with c) 1
cut-is c = record {
  empty = refl;
  goes_on = λ b text e. rw e refl;
  ends = λ b text e. rw e refl;
}

abbrev pub begins_twice : ℕ → List ℕ → Bool
begins_twice c text = starts_with eqb text (c ∷ c ∷ [])

pub cut_at_two-is : (c : ℕ) → IsCutter (cut_at_two c) (begins_twice c) 2
cut_at_two-is c = record {
  empty = refl;
  goes_on = λ b text e. rw e refl;
  ends = λ b text e. rw e refl;
}

-- the fields of a text, by one cut
onto_first-by : (c b : ℕ) (text : List ℕ) (o : Parts) → onto_first b (fields_by c text o) ≡ fields_by c (b ∷ text) (onto_front b o)
onto_first-by c b text None = refl
onto_first-by c b text (Some parts) = refl

pub fields_at-cut : (c : ℕ) (text : List ℕ) → fields_at c text ≡ fields_by c text (cut c text)
fields_at-cut c [] = refl
fields_at-cut c (b ∷ text) = by_test (eqb b c) refl (fields_at-cut c text)
  where
    by_test : (t : Bool) → eqb b c ≡ t → fields_at c text ≡ fields_by c text (cut c text) → fields_at c (b ∷ text) ≡ fields_by c (b ∷ text) (cut c (b ∷ text))
    by_test true e rest = rw e refl
    by_test false e rest = rw e (ap (onto_first b) rest ∙ onto_first-by c b text (cut c text))

-- there is a field at least
some_onto : (b : ℕ) (fields : List (List ℕ)) → 0 < length (onto_first b fields)
some_onto b [] = omega arith
some_onto b (field ∷ fields) = omega arith

pub some_field : (c : ℕ) (text : List ℕ) → 0 < length (fields_at c text)
some_field c [] = omega arith
some_field c (b ∷ text) =
    cond_both (eqb b c) ([] ∷ fields_at c text) (onto_first b (fields_at c text)) (λ fs. 0 < length fs) (λ _. omega arith) (λ _. some_onto b (fields_at c text))

-- a cut takes one byte away
sizes_onto : (b n : ℕ) (o : Parts) → MatchOption o (Unit {0}) (λ parts. length parts.0 + 1 + length parts.1 ≡ n)
    → MatchOption (onto_front b o) (Unit {0}) (λ parts. length parts.0 + 1 + length parts.1 ≡ suc n)
sizes_onto b n None h = tt
sizes_onto b n (Some parts) h = omega arith

pub cut_sizes : (c : ℕ) (text : List ℕ) → MatchOption (cut c text) (Unit {0}) (λ parts. length parts.0 + 1 + length parts.1 ≡ length text)
cut_sizes c [] = tt
cut_sizes c (b ∷ text) = cond_both (eqb b c) (Some ([], text)) (onto_front b (cut c text))
    (λ o. MatchOption o (Unit {0}) (λ parts. length parts.0 + 1 + length parts.1 ≡ length (b ∷ text)))
    (λ _. omega arith)
    (λ _. sizes_onto b (length text) (cut c text) (cut_sizes c text))
