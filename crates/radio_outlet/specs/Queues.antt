-- The lines that wait to be written, and those that were lost.
use Rattle.std.specs.Prelude.{ℕ, List, ◌+◌, ◌-◌, ◌^◌, ◌++◌, ◌==◌, length, filter, min}

-- a number has 64 bits
abbrev pub most_number : ℕ
most_number = 2 ^ 64 - 1

-- the lines that wait, how many were lost since a loss was reported last, and the moment of the last line
pub record Queue : Type 0 where
  pub lines : List ℕ
  pub lost : ℕ
  pub seconds : ℕ

-- how many lines end in these bytes: each ends with LF
abbrev pub lines_in : List ℕ → ℕ
lines_in bytes = length (filter (λ byte. byte == 10) bytes)

-- lines were added behind those that wait
-- rule: Log queue
abbrev pub added : List ℕ → ℕ → Queue → Queue
added bytes seconds q = record { lines = q.lines ++ bytes; lost = q.lost; seconds = seconds }

-- lines were lost
-- rule: Log queue
abbrev pub dropped : List ℕ → ℕ → Queue → Queue
dropped bytes seconds q = record { lines = q.lines; lost = min most_number (q.lost + lines_in bytes); seconds = seconds }
