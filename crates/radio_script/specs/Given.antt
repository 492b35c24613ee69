-- The bytes that each connection was given, by a transcript.
use Rattle.std.specs.Prelude.{ℕ, ◌≡◌, ◌==◌, ◌<◌, ◌^◌, false, List, [], if◌then◌else◌}
use Rattle.std.specs.List.{flat_map, AllByRecursion}
use Rattle.radio_script.specs.Feeds.{has_feed}
use Rattle.radio_script.specs.TranscriptLines.{out_line, shut_line}

-- a line of a transcript: bytes that the connection of this label was given, or the word with which it was shut
pub data TranscriptLine : Type 0 where
  out : ℕ → List ℕ → TranscriptLine
  shut : ℕ → List ℕ → TranscriptLine

abbrev pub line_text : TranscriptLine → List ℕ
line_text (out label bytes) = out_line label bytes
line_text (shut label word) = shut_line label word

-- the lines, one after another
abbrev pub transcript_text : List TranscriptLine → List ℕ
transcript_text lines = flat_map line_text lines

-- the line has a label that can be opened, bytes, and a word without a line feed
abbrev pub IsLine : TranscriptLine → Type 0
IsLine (out label bytes) = (label < 2 ^ 32) × AllByRecursion (λ b. b < 256) bytes
IsLine (shut label word) = (label < 2 ^ 32) × (has_feed word ≡ false)

abbrev pub AreLines : List TranscriptLine → Type 0
AreLines lines = AllByRecursion IsLine lines

abbrev pub given_in : TranscriptLine → ℕ → List ℕ
given_in (out his bytes) label = (if his == label then bytes else [])
given_in (shut his word) label = []

-- the bytes of the connection's `out` lines, joined in their order
abbrev pub given : List TranscriptLine → ℕ → List ℕ
given lines label = flat_map (λ line. given_in line label) lines
