-- Values of headers that come back as they were written: decimal numbers, and values of words.
use Rattle.std.proofs.Common.{◌≡◌, ℕ, ◌+◌, ◌%◌, ◌<◌, ◌≤◌, ◌^◌, Bool, true, not, leb, List, [], ◌∷◌, reverse, refl, ap, ◌∙◌, arith, decimal}
use Rattle.std.specs.Char.{is_ascii_digit}
use Rattle.std.proofs.lemmas.Bool.{le-leb, leb-true, and_from, and_parts, cond-false, not-true}
use Rattle.std.proofs.lemmas.Bool.Decides.{nat_tests}
use Rattle.std.proofs.lemmas.Fmt.{decimal_by_steps}
use Rattle.std.proofs.lemmas.List.{reverse-reverse}
use Rattle.std.proofs.lemmas.List.Elements.{All-cons, All-nil, All-head, All-push, All-weaker}
use Rattle.httparse.specs.Grammar.{AllPass, is_ows, is_value_byte, skip_ows, trim_ows}
use Rattle.httparse.proofs.TrimLemmas.{AllPass-reverse}
use Rattle.radio_heads.proofs.ReadBackLemmas.{IsHeaderValue}

-- ---- numbers

abbrev pub IsDigit : ℕ → Type 0
IsDigit b = is_ascii_digit b ≡ true

pub last_digit : (n : ℕ) → n < 10 → IsDigit (48 + n)
last_digit n lt = and_from _ _ (le-leb 48 (48 + n) (omega arith)) (le-leb (48 + n) 57 (omega arith))

pub decimal_digits : (n : ℕ) → n < 2 ^ 64 → AllPass is_ascii_digit (decimal n)
decimal_digits n lt = decimal_by_steps (λ (m : ℕ) (ds : List ℕ). AllPass is_ascii_digit ds)
    (λ m small. All-cons IsDigit (48 + m) [] (last_digit m small) (All-nil IsDigit))
    (λ m ds ten all. All-push IsDigit ds (48 + m % 10) all (last_digit (m % 10) (omega arith)))
    n lt

-- what holds of a digit
pub digit_value_byte : (b : ℕ) → IsDigit b → is_value_byte b ≡ true
digit_value_byte b h =
    let both = and_parts (leb 48 b) (leb b 57) h in
    let low : 48 ≤ b = leb-true 48 b both.0 in
    let high : b ≤ 57 = leb-true b 57 both.1 in
    grind (arith, nat_tests)

abbrev pub is_no_ows : ℕ → Bool
is_no_ows b = not (is_ows b)

pub digit_no_ows : (b : ℕ) → IsDigit b → is_no_ows b ≡ true
digit_no_ows b h =
    let both = and_parts (leb 48 b) (leb b 57) h in
    let low : 48 ≤ b = leb-true 48 b both.0 in
    let high : b ≤ 57 = leb-true b 57 both.1 in
    grind (arith, nat_tests)

-- ---- white space

-- where there is no white space, none is skipped
pub skip_ows-none : (bytes : List ℕ) → AllPass is_no_ows bytes → skip_ows bytes ≡ bytes
skip_ows-none [] h = refl
skip_ows-none (b ∷ bytes) h = cond-false (is_ows b) _ _ (not-true _ (All-head (λ x. is_no_ows x ≡ true) b bytes h))

pub trim_ows-none : (bytes : List ℕ) → AllPass is_no_ows bytes → trim_ows bytes ≡ bytes
unfolding trim_ows
trim_ows-none bytes h =
    ap (λ (xs : List ℕ). reverse (skip_ows (reverse xs))) (skip_ows-none bytes h)
    ∙ ap reverse (skip_ows-none (reverse bytes) (AllPass-reverse is_no_ows bytes h))
    ∙ reverse-reverse bytes

pub decimal_is_value : (n : ℕ) → n < 2 ^ 64 → IsHeaderValue (decimal n)
decimal_is_value n lt = record {
  bytes = All-weaker IsDigit (λ b. is_value_byte b ≡ true) digit_value_byte (decimal n) (decimal_digits n lt);
  trimmed = trim_ows-none (decimal n) (All-weaker IsDigit (λ b. is_no_ows b ≡ true) digit_no_ows (decimal n) (decimal_digits n lt));
}
