-- Titles that can be sent.
use Rattle.std.specs.Prelude.{◌≡◌, ℕ, ◌≤◌, List, length}
use Rattle.radio_values.specs.Cleaning.{cleaned}
use Rattle.radio_values.specs.Limits.{max_title}

-- the text fits a metadata block, and cleaning leaves it as it is: it is UTF-8 without control characters
pub record IsTitle (text : List ℕ) : Type 0 where
  pub fits : length text ≤ max_title
  pub clean : cleaned max_title text ≡ text
