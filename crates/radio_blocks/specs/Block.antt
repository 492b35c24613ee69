-- What makes a block.
use Rattle.std.specs.Prelude.{ℕ, ◌≤◌, List, length}

-- these bytes make a block: at least one, and at most 4096
-- rule: Cut into blocks
abbrev pub IsBlock : List ℕ → Type 0
IsBlock bytes = (1 ≤ length bytes) × (length bytes ≤ 4096)
