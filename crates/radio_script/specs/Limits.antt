-- How large a script may be.
use Rattle.std.specs.Prelude.{ℕ}

-- the largest number of lines
-- rule: Longest script
abbrev pub max_lines : ℕ
max_lines = 1000000

-- the largest number of bytes of a line, without its line feed
-- rule: Longest script
abbrev pub max_line : ℕ
max_line = 65536
