-- Blocks that data are gathered in.
use Rattle.std.specs.Prelude.{◌≡◌, ℕ, List, length, All}

-- each block has 4096 bytes
abbrev pub AreFull : List (List ℕ) → Type 0
AreFull blocks = All (λ block. length block ≡ 4096) blocks
