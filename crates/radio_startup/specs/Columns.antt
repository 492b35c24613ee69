-- Lines and columns of a text in UTF-8.
use Rattle.std.specs.Prelude.{ℕ, Bool, ◌&&◌, ◌==◌, ◌+◌, nat_le, min, if◌then◌else◌, List, fold}

-- the byte goes on a character that another one began (RFC 3629, section 3)
abbrev pub goes_on_character : ℕ → Bool
goes_on_character byte = nat_le 128 byte && nat_le byte 191

-- the column after a byte at this one; columns count characters from 1, and a program counts to its largest number
abbrev pub column_after : ℕ → ℕ → ℕ
column_after column byte = if byte == 10 then 1 else if goes_on_character byte then column else min (column + 1) 18446744073709551615

-- the line after a byte of this one; lines are counted from 1
abbrev pub line_after : ℕ → ℕ → ℕ
line_after line byte = if byte == 10 then min (line + 1) 18446744073709551615 else line

-- the line and the column after these bytes
abbrev pub line_behind : List ℕ → ℕ
line_behind bytes = fold line_after 1 bytes

abbrev pub column_behind : List ℕ → ℕ
column_behind bytes = fold column_after 1 bytes
