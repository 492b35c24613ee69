-- How the bytes of a value are written in a line.
use Rattle.std.specs.Prelude.{ℕ, Bool, ◌&&◌, nat_le, ◌==◌, not, List, [], ◌∷◌, if◌then◌else◌}
use Rattle.std.specs.List.{flat_map}
use Rattle.percent_encoding.specs.Percent.{percent_encode_byte}

-- a byte that is written as it is: a letter, a digit or a sign of ASCII, but for `%`
abbrev pub is_plain : ℕ → Bool
is_plain b = nat_le 33 b && nat_le b 126 && not (b == 37)

-- a byte in a line: itself, or `%` and two upper-case hexadecimal digits (RFC 3986, section 2.1)
abbrev pub shown_byte : ℕ → List ℕ
shown_byte b = if is_plain b then b ∷ [] else percent_encode_byte b

-- a value in a line
unfoldable pub shown_value : List ℕ → List ℕ
shown_value value = flat_map shown_byte value
