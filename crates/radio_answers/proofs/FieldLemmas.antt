-- What heads may show is what headers may have as values.
use Rattle.std.proofs.Common.{◌≡◌, refl, ℕ, Bool, true, false, ◌||◌, List, arith}
use Rattle.std.proofs.lemmas.Bool.Decides.{nat_tests}
use Rattle.std.specs.Prelude.{◌==◌}
use Rattle.std.specs.List.{list_all}
use Rattle.std.proofs.lemmas.List.Sums.{AllPass-from_list_all}
use Rattle.std.proofs.lemmas.List.Elements.{All-weaker}
use Rattle.radio_heads.specs.FieldValue.{IsFieldText}
use Rattle.radio_values.specs.Cleaning.{is_shown}
use Rattle.radio_values.specs.AllowedOrigin.{is_visible}

or_true : (x y : Bool) → y ≡ true → (x || y) ≡ true
or_true true y e = refl
or_true false y e = e

pub shown_is_field_text : (bytes : List ℕ) → list_all is_shown bytes ≡ true → IsFieldText bytes
shown_is_field_text bytes shown =
    All-weaker (λ b. is_shown b ≡ true) (λ b. (b == 9 || is_shown b) ≡ true) (λ b e. or_true (b == 9) (is_shown b) e) bytes
    (AllPass-from_list_all is_shown bytes shown)

-- and so is what an allowed origin has
visible_is_shown : (b : ℕ) → is_visible b ≡ true → is_shown b ≡ true
visible_is_shown b e = grind (arith, nat_tests)

pub visible_is_field_text : (bytes : List ℕ) → list_all is_visible bytes ≡ true → IsFieldText bytes
visible_is_field_text bytes visible =
    All-weaker (λ b. is_visible b ≡ true) (λ b. (b == 9 || is_shown b) ≡ true) (λ b e. or_true (b == 9) (is_shown b) (visible_is_shown b e)) bytes
    (AllPass-from_list_all is_visible bytes visible)
