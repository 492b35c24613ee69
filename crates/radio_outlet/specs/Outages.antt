-- The time in which the log cannot be written.
use Rattle.std.specs.Prelude.{ℕ, Bool, true, false, ◌+◌, ◌-◌, ◌^◌, min}

-- whether the last write failed, and the first moment at which another is tried
pub record Trouble : Type 0 where
  pub is_failing : Bool
  pub not_before : ℕ

-- the last write succeeded
-- rule: Log failures
abbrev pub works : Trouble
works = record { is_failing = false; not_before = 0 }

-- a write failed at this moment: the next is tried a second later; a moment has 64 bits
-- rule: Log failures
abbrev pub failed_at : ℕ → Trouble
failed_at ms = record { is_failing = true; not_before = min (2 ^ 64 - 1) (ms + 1000) }
