-- One digit more of a number that is being read.
use Rattle.std.proofs.Common.{◌≡◌, ℕ, Bool, ◌+◌, ◌*◌, ◌<◌, ◌≤◌, true, false, List, [], ◌∷◌, length, drop, get_or, None, Some, refl, arith, ap, ◌∙◌, sym}
use Rattle.std.specs.Char.{digit_value, is_digit}
use Rattle.std.specs.List.{list_all}
use Rattle.std.specs.Str.Parse.{digits_value, digits_value_after}
use Rattle.std.proofs.lemmas.Bool.{lt-ltb, le-ltb, le-leb, lt-leb, and_right, and_left, and_from}
use Rattle.std.proofs.Common.{ltb, leb}
use Rattle.std.proofs.Math.Nat.{mul-le-mul_left}
use Rattle.std.proofs.lemmas.List.{at_drop_more, at_drop_all}
use Rattle.radio_texts.specs.Numbers.{number_of, is_numeral}

-- whether all bytes are digits
abbrev pub all_digits : ℕ → List ℕ → Bool
all_digits base text = list_all (λ b. is_digit b base) text

-- a number that goes on with digits does not fall
digits_value_after-ge : (base n : ℕ) (text : List ℕ) → 0 < base → n ≤ digits_value_after base n text
digits_value_after-ge base n [] some = omega arith
digits_value_after-ge base n (b ∷ text) some =
    let step : n ≤ n * base = omega (arith, mul-le-mul_left {m = 1} {n = base} n (omega arith)) in
    omega (arith, digits_value_after-ge base (n * base + digit_value b) text some)

-- nothing is no number
pub number_of-nil : (base most : ℕ) (text : List ℕ) → length text ≡ 0 → None ≡ number_of base most text
unfolding number_of
number_of-nil base most text none = rw none refl

-- a byte that is no digit
pub number_of-no_digit : (base most i : ℕ) (text : List ℕ) → i < length text → base ≤ digit_value (get_or text i 0)
    → all_digits base (drop i text) ≡ all_digits base text → None ≡ number_of base most text
unfolding number_of
number_of-no_digit base most i text inside none so_far =
    let here = at_drop_more (all_digits base) text i 0 inside in
    let fails : all_digits base text ≡ false =
    sym so_far ∙ (here ∙ and_left (is_digit (get_or text i 0) base) _ (le-ltb (digit_value (get_or text i 0)) base none)) in
    let numeral : is_numeral base text ≡ false = and_right (ltb 0 (length text)) (all_digits base text) fails in
    rw (numeral) refl

-- one digit more
pub digits_more : (base i n : ℕ) (text : List ℕ) → i < length text → digits_value_after base n (drop i text) ≡ digits_value base text
    → digits_value_after base (n * base + digit_value (get_or text i 0)) (drop (i + 1) text) ≡ digits_value base text
digits_more base i n text inside so_far = sym (at_drop_more (digits_value_after base n) text i 0 inside) ∙ so_far

pub all_digits_more : (base i : ℕ) (text : List ℕ) → i < length text → digit_value (get_or text i 0) < base
    → all_digits base (drop i text) ≡ all_digits base text → all_digits base (drop (i + 1) text) ≡ all_digits base text
all_digits_more base i text inside digit so_far =
    let here = at_drop_more (all_digits base) text i 0 inside in
    let step : all_digits base (drop i text) ≡ all_digits base (drop (i + 1) text) = here ∙ rw (lt-ltb (digit_value (get_or text i 0)) base digit) refl in
    sym step ∙ so_far

-- a number that has grown too large
pub number_of-large : (base most i n : ℕ) (text : List ℕ) → 0 < base → i < length text → most < n * base + digit_value (get_or text i 0)
    → digits_value_after base n (drop i text) ≡ digits_value base text → None ≡ number_of base most text
unfolding number_of
number_of-large base most i n text some inside large so_far =
    let value = digits_more base i n text inside so_far in
    let grown : most < digits_value base text =
    omega (arith, digits_value_after-ge base (n * base + digit_value (get_or text i 0)) (drop (i + 1) text) some) in
    let fails = and_right (is_numeral base text) (leb (digits_value base text) most) (lt-leb (digits_value base text) most grown) in
    rw (fails) refl

-- all digits read
pub number_of-all : (base most i n : ℕ) (text : List ℕ) → 0 < length text → length text ≤ i → n ≤ most
    → digits_value_after base n (drop i text) ≡ digits_value base text → all_digits base (drop i text) ≡ all_digits base text
    → Some n ≡ number_of base most text
unfolding number_of
number_of-all base most i n text some past small value digits =
    let same : n ≡ digits_value base text = sym (at_drop_all (digits_value_after base n) text i past) ∙ value in
    let passes : all_digits base text ≡ true = sym digits ∙ at_drop_all (all_digits base) text i past in
    let numeral : is_numeral base text ≡ true = and_from (ltb 0 (length text)) (all_digits base text) (lt-ltb 0 (length text) some) passes in
    let fits = and_from (is_numeral base text) (leb (digits_value base text) most) numeral (le-leb (digits_value base text) most (omega arith)) in
    rw (fits) (ap (λ (m : ℕ). Some m) same)
