-- Values in lines.
use Rattle.std.proofs.Common.{◌≡◌, ◌≢◌, ℕ, ◌/◌, ◌%◌, ◌<◌, ◌≤◌, Bool, true, false, List, [], ◌∷◌, ◌++◌, refl, ap, ◌∙◌, arith}
use Rattle.std.specs.Prelude.{if◌then◌else◌}
use Rattle.std.specs.List.{AllByRecursion, flat_map}
use Rattle.std.specs.Fmt.{digit_glyph}
use Rattle.std.proofs.lemmas.Bool.Decides.{nat_tests}
use Rattle.percent_encoding.specs.Percent.{percent_encode_byte, percent_decode}
use Rattle.percent_encoding.proofs.PercentLemmas.{percent_decode-percent_encode_byte, percent_decode_not_percent}
use Rattle.radio_log.specs.Laws.{IsText}
use Rattle.radio_log.specs.Shown.{is_plain, shown_value, shown_byte}

-- a letter, a digit or a sign
abbrev pub IsVisible : ℕ → Type 0
IsVisible b = (33 ≤ b) × (b ≤ 126)

pub Each-append : {X : Type 0} (P : X → Type 0) (xs ys : List X) → AllByRecursion P xs → AllByRecursion P ys → AllByRecursion P (xs ++ ys)
Each-append P [] ys h k = k
Each-append P (x ∷ xs) ys h k = (h.0, Each-append P xs ys h.1 k)

pub Each-weaker : {X : Type 0} (P Q : X → Type 0) → ((x : X) → P x → Q x) → (xs : List X) → AllByRecursion P xs → AllByRecursion Q xs
Each-weaker P Q weaker [] h = tt
Each-weaker P Q weaker (x ∷ xs) h = (weaker x h.0, Each-weaker P Q weaker xs h.1)

glyph_visible : (d : ℕ) → d < 16 → IsVisible (digit_glyph true d)
glyph_visible d small = (grind (arith, nat_tests), grind (arith, nat_tests))

byte_visible : (b : ℕ) (t : Bool) → is_plain b ≡ t → AllByRecursion IsVisible (if t then b ∷ [] else percent_encode_byte b)
unfolding percent_encode_byte
byte_visible b true is = ((grind (arith, nat_tests), grind (arith, nat_tests)), tt)
byte_visible b false is =
    ((omega arith, omega arith), (glyph_visible (b / 16 % 16) (omega arith), (glyph_visible (b % 16) (omega arith), tt)))

pub shown_visible : (value : List ℕ) → AllByRecursion IsVisible (shown_value value)
unfolding shown_value
shown_visible [] = tt
shown_visible (b ∷ value) = Each-append IsVisible (shown_byte b) (flat_map shown_byte value) (byte_visible b (is_plain b) refl) (shown_visible value)

no_percent : (b : ℕ) → is_plain b ≡ true → b ≢ 37
no_percent b is e = grind (arith, nat_tests)

decoded_byte : (b : ℕ) (rest : List ℕ) → b < 256 → (t : Bool) → is_plain b ≡ t
    → percent_decode ((if t then b ∷ [] else percent_encode_byte b) ++ rest) ≡ b ∷ percent_decode rest
decoded_byte b rest small true is = percent_decode_not_percent b rest (no_percent b is)
decoded_byte b rest small false is = percent_decode-percent_encode_byte b rest small

-- what is shown of a value is decoded to it
pub decoded_shown : (value : List ℕ) → IsText value → percent_decode (shown_value value) ≡ value
unfolding shown_value percent_decode
decoded_shown [] h = refl
decoded_shown (b ∷ value) h =
    decoded_byte b (flat_map shown_byte value) h.0 (is_plain b) refl ∙ ap (λ (bytes : List ℕ). b ∷ bytes) (decoded_shown value h.1)
