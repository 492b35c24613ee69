-- Names that stand twice in a list.
use Rattle.std.proofs.Common.{◌≡◌, true, false, cond, ℕ, ◌+◌, ◌<◌, List, [], ◌∷◌, ◌++◌, length, take, drop, get_or, Some, Ordering, refl, ap, sym}
use Rattle.std.proofs.Common.{◌∙◌, arith}
use Rattle.std.proofs.lemmas.Bool.Decides.{nat_tests}
use Rattle.std.proofs.lemmas.List.{take_more, drop_more}
use Rattle.std.specs.Cmp.Lexicographic.{slice_cmp}
use Rattle.std.specs.Ordering.{nat_cmp, is_eq}
use Rattle.std.specs.Str.{bytes_eq}
use Rattle.radio_settings_values.specs.Repeats.{first_repeat, first_repeat_after, is_among}

abbrev pub order : List ℕ → List ℕ → Ordering
order = slice_cmp nat_cmp

-- names tie in the order exactly where their bytes are the same
pub ties : (k q : List ℕ) → is_eq (order k q) ≡ bytes_eq q k
ties [] [] = refl
ties [] (y ∷ q) = refl
ties (x ∷ k) [] = refl
ties (x ∷ k) (y ∷ q) = grind (arith, nat_tests, ties k q)

abbrev pub Names : Type 0
Names = List (List ℕ)

-- the search goes on behind i names that have been passed
abbrev pub IsPassed : Names → ℕ → Type 0
IsPassed names i = first_repeat names ≡ first_repeat_after (take i names) (drop i names)

pub none_passed : (names : Names) → IsPassed names 0
unfolding first_repeat
none_passed names = refl

-- a name that is not among those before it is passed
pub passed_more : (names : Names) (i : ℕ) (name : List ℕ) → i < length names → name ≡ get_or names i name → is_among (take i names) name ≡ false
    → IsPassed names i → IsPassed names (i + 1)
passed_more names i name low is new so_far =
    so_far
    ∙ ap (first_repeat_after (take i names)) (drop_more names i name low ∙ ap (λ n. n ∷ drop (i + 1) names) (sym is))
    ∙ ap (λ b. cond b (Some name) (first_repeat_after (take i names ++ name ∷ []) (drop (i + 1) names))) new
    ∙ ap (λ passed. first_repeat_after passed (drop (i + 1) names)) (ap (λ n. take i names ++ n ∷ []) is ∙ sym (take_more names i name low))

-- a name that is among those before it is the first such
pub found_here : (names : Names) (i : ℕ) (name : List ℕ) → i < length names → name ≡ get_or names i name → is_among (take i names) name ≡ true
    → IsPassed names i → first_repeat names ≡ Some name
found_here names i name low is old so_far =
    so_far
    ∙ ap (first_repeat_after (take i names)) (drop_more names i name low ∙ ap (λ n. n ∷ drop (i + 1) names) (sym is))
    ∙ ap (λ b. cond b (Some name) (first_repeat_after (take i names ++ name ∷ []) (drop (i + 1) names))) old
