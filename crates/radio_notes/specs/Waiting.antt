-- The lines that wait to be written.
use Rattle.std.specs.Prelude.{ℕ, List}

-- the lines, one behind the other, and how many were lost since a loss was last reported
pub record Waiting : Type 0 where
  pub lines : List ℕ
  pub lost : ℕ
