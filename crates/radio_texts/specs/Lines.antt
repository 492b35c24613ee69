-- The ends of lines.
use Rattle.std.specs.Prelude.{ℕ, ◌-◌, ◌==◌, List, length, take, slice_index, if◌then◌else◌}

abbrev pub carriage_return : ℕ
carriage_return = 13

-- a line without one carriage return at its end
abbrev pub without_return : List ℕ → List ℕ
without_return line =
    if slice_index line (length line - 1) == carriage_return then take (length line - 1) line else line
