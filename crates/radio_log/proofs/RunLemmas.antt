-- Values that are shown run by run.
use Rattle.std.proofs.Common.{◌≡◌, ℕ, ◌+◌, ◌^◌, ◌<◌, ◌≤◌, Bool, true, false, List, [], ◌∷◌, ◌++◌, Some, None, refl, ap, subst, ◌∙◌, arith, take, drop, length, get_or}
use Rattle.std.specs.Prelude.{cond, not, position}
use Rattle.std.specs.List.{AllByRecursion, position_or_len}
use Rattle.std.proofs.lemmas.Grind.{common_steps}
use Rattle.std.proofs.lemmas.List.Quantifiers.{position-Some}
use Rattle.std.proofs.lemmas.List.{drop_more}
use Rattle.std.specs.Fmt.{decimal}
use Rattle.std.specs.Char.{digit_value}
use Rattle.std.specs.Str.Parse.{AllDigits}
use Rattle.std.proofs.lemmas.Bool.Decides.{nat_tests}
use Rattle.std.proofs.lemmas.Fmt.{decimal_is_IsNumeral}
use Rattle.percent_encoding.specs.Percent.{percent_encode_byte}
use Rattle.radio_log.specs.Shown.{is_plain, shown_value}

-- a byte that does not stand for itself
abbrev pub is_encoded : ℕ → Bool
is_encoded b = not (is_plain b)

front_by : (b : ℕ) (value : List ℕ) (n : ℕ) → shown_value value ≡ take n value ++ shown_value (drop n value) → (t : Bool) → is_plain b ≡ t
    → shown_value (b ∷ value) ≡ take (cond (not (not t)) (1 + n) 0) (b ∷ value) ++ shown_value (drop (cond (not (not t)) (1 + n) 0) (b ∷ value))
unfolding shown_value
front_by b value n ih true is = grind (arith, common_steps, is, ih)
front_by b value n ih false is = refl

-- the bytes before the first that is encoded are shown as they are
pub shown_front : (value : List ℕ) → shown_value value
    ≡ take (position_or_len is_encoded value) value ++ shown_value (drop (position_or_len is_encoded value) value)
unfolding shown_value
shown_front [] = refl
shown_front (b ∷ value) = front_by b value (position_or_len is_encoded value) (shown_front value) (is_plain b) refl

encoded_by : (b : ℕ) (rest : List ℕ) (t : Bool) → is_plain b ≡ t → not t ≡ true → shown_value (b ∷ rest) ≡ percent_encode_byte b ++ shown_value rest
unfolding shown_value
encoded_by b rest true is e = grind (arith, common_steps)
encoded_by b rest false is e = rw is refl

-- the bytes before the first that is encoded, that one, and what is behind it
pub shown_run : (value : List ℕ) (at : ℕ) (d : ℕ) → position is_encoded value ≡ Some at
    → shown_value value ≡ take at value ++ (percent_encode_byte (get_or value at d) ++ shown_value (drop (at + 1) value))
shown_run value at d e =
    let found = position-Some is_encoded value at d e in
    let here : position_or_len is_encoded value ≡ at = grind (arith, common_steps) in
    let front : shown_value value ≡ take at value ++ shown_value (drop at value) =
    subst (λ n. shown_value value ≡ take n value ++ shown_value (drop n value)) here (shown_front value) in
    let next : drop at value ≡ get_or value at d ∷ drop (at + 1) value = drop_more value at d found.0 in
    front ∙ ap (λ bytes. take at value ++ bytes) (ap shown_value next ∙ encoded_by (get_or value at d) (drop (at + 1) value) _ refl found.1)

ends : (value : List ℕ) (n : ℕ) → length value ≤ n → take n value ++ shown_value (drop n value) ≡ value
unfolding shown_value
ends value n end = grind (arith, common_steps)

-- where none is encoded, all are shown as they are
pub shown_plain : (value : List ℕ) → position is_encoded value ≡ None → shown_value value ≡ value
shown_plain value e =
    let end : length value ≤ position_or_len is_encoded value = grind (arith, common_steps) in
    shown_front value ∙ ends value _ end

plain_shown : (value : List ℕ) → AllByRecursion (λ b. is_plain b ≡ true) value → shown_value value ≡ value
unfolding shown_value
plain_shown [] h = refl
plain_shown (b ∷ value) h = rw h.0 (ap (λ (bytes : List ℕ). b ∷ bytes) (plain_shown value h.1))

digit_plain : (d : ℕ) → digit_value d < 10 → is_plain d ≡ true
digit_plain d small = grind (arith, nat_tests)

digits_plain : (ds : List ℕ) → AllDigits 10 ds → AllByRecursion (λ b. is_plain b ≡ true) ds
digits_plain [] h = tt
digits_plain (d ∷ ds) h = (digit_plain d h.0, digits_plain ds h.1)

-- the digits of a number stand for themselves
pub count_shown : (n : ℕ) → n < 2 ^ 64 → shown_value (decimal n) ≡ decimal n
count_shown n h = plain_shown (decimal n) (digits_plain (decimal n) (decimal_is_IsNumeral n h).0.1)
