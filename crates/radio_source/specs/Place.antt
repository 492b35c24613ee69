-- The place in a body after its bytes, byte for byte, and the data among them.
use Rattle.std.specs.Prelude.{ℕ, zero, suc, ◌-◌, List, [], ◌∷◌, ◌++◌, length, Bool, true, false, ◌==◌, nat_lt, if◌then◌else◌, Option, None, Some}
use Rattle.httparse.specs.Ascii.{carriage_return, line_feed}
use Rattle.radio_source.specs.declared.chunk_line.LineReading.{LineReading}
use Rattle.radio_source.specs.declared.chunk_line.LineReading.TheVariants.{Unfinished, Whole, Refused}
use Rattle.radio_source.specs.declared.fault.BodyFault.{BodyFault}
use Rattle.radio_source.specs.declared.fault.BodyFault.TheVariants.{BadChunk, PastEnd}
use Rattle.radio_source.specs.ChunkLine.{chunk_line_in}

pub data Place : Type 0 where
  -- in a plain body: all that comes is data
  InPlain : Place
  -- in a sized body, with so many bytes to come; with none it has ended
  InSized : ℕ → Place
  -- in a chunk line, of which these bytes have come
  InLine : List ℕ → Place
  -- in a chunk, with so many bytes of data to come; with none its CR LF is to come
  InChunk : ℕ → Place
  -- between the CR and the LF after a chunk's data
  AfterReturn : Place
  -- before a trailer line or the empty line; trailer lines may have this many more bytes, with their LFs
  AtTrailer : ℕ → Place
  -- after a CR there
  AfterTrailerReturn : ℕ → Place
  -- in a trailer line; it and those after it may have so many more bytes
  InTrailer : ℕ → Place
  -- after the empty line: a chunked body has ended
  AtEnd : Place
  -- there were bytes after the end
  PastTheEnd : Place
  -- there was a byte that no chunked body has there
  Broken : Place

-- after the line of a chunk of this size: its data, or, with no data, the trailers
abbrev pub after_size : ℕ → Place
after_size size = if size == 0 then AtTrailer 4096 else InChunk size

-- a line may go on while it has fewer than 256 bytes
abbrev pub after_reading : List ℕ → LineReading → Place
after_reading line Unfinished = if nat_lt (length line) 256 then InLine line else Broken
after_reading line (Whole size) = after_size size
after_reading line Refused = Broken

-- the place after these bytes of a chunk line
unfoldable pub after_line : List ℕ → Place
after_line line = after_reading line (chunk_line_in line)

-- so many more bytes of a trailer line, which still needs its LF
abbrev pub in_trailer : ℕ → ℕ → Place
in_trailer left n = if nat_lt n left then InTrailer (left - n) else Broken

-- the place after one byte
abbrev pub after_byte : Place → ℕ → Place
after_byte InPlain b = InPlain
after_byte (InSized zero) b = PastTheEnd
after_byte (InSized (suc left)) b = InSized left
after_byte (InLine held) b = after_line (held ++ b ∷ [])
after_byte (InChunk zero) b = if b == carriage_return then AfterReturn else Broken
after_byte (InChunk (suc left)) b = InChunk left
after_byte AfterReturn b = if b == line_feed then InLine [] else Broken
after_byte (AtTrailer left) b =
    if b == line_feed then AtEnd else if b == carriage_return then AfterTrailerReturn left else in_trailer left 1
after_byte (AfterTrailerReturn left) b = if b == line_feed then AtEnd else in_trailer left 2
after_byte (InTrailer left) b = if b == line_feed then AtTrailer (left - 1) else in_trailer left 1
after_byte AtEnd b = PastTheEnd
after_byte PastTheEnd b = PastTheEnd
after_byte Broken b = Broken

-- the data that one byte is
abbrev pub brought_by : Place → ℕ → List ℕ
brought_by InPlain b = b ∷ []
brought_by (InSized zero) b = []
brought_by (InSized (suc left)) b = b ∷ []
brought_by (InLine held) b = []
brought_by (InChunk zero) b = []
brought_by (InChunk (suc left)) b = b ∷ []
brought_by AfterReturn b = []
brought_by (AtTrailer left) b = []
brought_by (AfterTrailerReturn left) b = []
brought_by (InTrailer left) b = []
brought_by AtEnd b = []
brought_by PastTheEnd b = []
brought_by Broken b = []

-- the place after some bytes
-- rule: Sized body
abbrev pub after : Place → List ℕ → Place
after place [] = place
after place (b ∷ bytes) = after (after_byte place b) bytes

-- the data among some bytes
-- rule: Sized body
abbrev pub data_of : Place → List ℕ → List ℕ
data_of place [] = []
data_of place (b ∷ bytes) = brought_by place b ++ data_of (after_byte place b) bytes

-- the body's end has come
-- rule: Sized body
abbrev pub has_ended : Place → Bool
has_ended InPlain = false
has_ended (InSized zero) = true
has_ended (InSized (suc left)) = false
has_ended (InLine held) = false
has_ended (InChunk left) = false
has_ended AfterReturn = false
has_ended (AtTrailer left) = false
has_ended (AfterTrailerReturn left) = false
has_ended (InTrailer left) = false
has_ended AtEnd = true
has_ended PastTheEnd = true
has_ended Broken = false

-- the fault among the bytes so far, if any
-- rule: Place of a fault
abbrev pub fault_at : Place → Option BodyFault
fault_at InPlain = None
fault_at (InSized left) = None
fault_at (InLine held) = None
fault_at (InChunk left) = None
fault_at AfterReturn = None
fault_at (AtTrailer left) = None
fault_at (AfterTrailerReturn left) = None
fault_at (InTrailer left) = None
fault_at AtEnd = None
fault_at PastTheEnd = Some PastEnd
fault_at Broken = Some BadChunk

-- before the first byte of each kind of body
abbrev pub plain_start : Place
plain_start = InPlain

abbrev pub sized_start : ℕ → Place
sized_start n = InSized n

abbrev pub chunked_start : Place
chunked_start = InLine []
