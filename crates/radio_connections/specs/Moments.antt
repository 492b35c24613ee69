-- Moments, in milliseconds.
use Rattle.std.specs.Prelude.{ℕ, ◌+◌, ◌-◌, ◌^◌, min}

-- a moment so much later, which has at most 64 bits
-- rule: Ten seconds
abbrev pub later : ℕ → ℕ → ℕ
later ms more = min (2 ^ 64 - 1) (ms + more)
