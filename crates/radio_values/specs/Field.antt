-- Fields: texts that heads may show.
use Rattle.std.specs.Prelude.{◌≡◌, ℕ, List}
use Rattle.radio_values.specs.Cleaning.{cleaned}
use Rattle.radio_values.specs.Limits.{max_field}

-- a text that cleaning leaves as it is
-- rule: Cleaned texts
abbrev pub IsClean : List ℕ → Type 0
IsClean text = cleaned max_field text ≡ text
