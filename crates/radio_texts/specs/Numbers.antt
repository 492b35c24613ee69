-- The numbers that texts write.
use Rattle.std.specs.Prelude.{ℕ, Bool, ◌&&◌, nat_lt, nat_le, List, length, Option, None, Some, if◌then◌else◌}
use Rattle.std.specs.List.{list_all}
use Rattle.std.specs.Char.{is_digit}
use Rattle.std.specs.Str.Parse.{digits_value}

-- digits in this base alone, one at least
abbrev pub is_numeral : ℕ → List ℕ → Bool
is_numeral base text = nat_lt 0 (length text) && list_all (λ b. is_digit b base) text

-- the number that digits write, if it is at most `most`
unfoldable pub number_of : ℕ → ℕ → List ℕ → Option ℕ
number_of base most text =
    if is_numeral base text && nat_le (digits_value base text) most then Some (digits_value base text) else None
