-- The line before a chunk (RFC 9112, section 7.1): one to sixteen hexadecimal digits, spaces or tabs, an extension after a
-- semicolon, and CR LF. Here it is read from the left; the laws say that this is the chunk line of `httparse`.
use Rattle.std.specs.Prelude.{ℕ, ◌+◌, ◌*◌, List, [], ◌∷◌, ◌==◌, ◌&&◌, nat_lt, if◌then◌else◌}
use Rattle.std.specs.Char.{is_ascii_hexdigit, digit_value}
use Rattle.httparse.specs.Ascii.{carriage_return, line_feed, semicolon}
use Rattle.httparse.specs.Grammar.{is_ows, is_extension_byte}
use Rattle.radio_source.specs.declared.chunk_line.LineReading.{LineReading}
use Rattle.radio_source.specs.declared.chunk_line.LineReading.TheVariants.{Unfinished, Whole, Refused}

-- the line's end
abbrev pub chunk_line_end : ℕ → List ℕ → LineReading
chunk_line_end size [] = Unfinished
chunk_line_end size (b ∷ []) = if b == carriage_return then Unfinished else Refused
chunk_line_end size (b ∷ c ∷ rest) = if b == carriage_return && c == line_feed then Whole size else Refused

-- the rest of an extension, and the line's end
abbrev pub extension_in : ℕ → List ℕ → LineReading
extension_in size [] = Unfinished
extension_in size (b ∷ rest) = if is_extension_byte b then extension_in size rest else chunk_line_end size (b ∷ rest)

-- spaces and tabs, and then an extension or the line's end
abbrev pub padding_in : ℕ → List ℕ → LineReading
padding_in size [] = Unfinished
padding_in size (b ∷ rest) =
    if is_ows b then padding_in size rest else if b == semicolon then extension_in size rest else chunk_line_end size (b ∷ rest)

-- more digits, after so many of this size, and what follows them
abbrev pub digits_in : ℕ → ℕ → List ℕ → LineReading
digits_in count size [] = Unfinished
digits_in count size (b ∷ rest) =
    if is_ascii_hexdigit b
    then (if nat_lt count 16 then digits_in (count + 1) (size * 16 + digit_value b) rest else Refused)
    else (if count == 0 then Refused else padding_in size (b ∷ rest))

-- the chunk line at the front of these bytes: whole, unfinished, or none whatever follows
-- rule: Chunk
unfoldable pub chunk_line_in : List ℕ → LineReading
chunk_line_in bytes = digits_in 0 0 bytes
