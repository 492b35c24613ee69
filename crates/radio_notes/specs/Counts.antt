-- Counts of 64 bits.
use Rattle.std.specs.Prelude.{ℕ, ◌-◌, ◌^◌, min}

-- a count that has reached its largest number stays there
abbrev pub capped : ℕ → ℕ
capped n = min (2 ^ 64 - 1) n
