-- The numbers of an address.
use Rattle.std.specs.Prelude.{ℕ, ◌&&◌, ◌==◌, nat_lt, List, length, slice_index, Option, None, if◌then◌else◌}
use Rattle.radio_texts.specs.Numbers.{number_of}

-- a decimal number to 255 with no needless zero in front
unfoldable pub octet_of : List ℕ → Option ℕ
octet_of text = if nat_lt 1 (length text) && slice_index text 0 == 48 then None else number_of 10 255 text

-- one to four hexadecimal digits
unfoldable pub group_of : List ℕ → Option ℕ
group_of text = if nat_lt 4 (length text) then None else number_of 16 65535 text
