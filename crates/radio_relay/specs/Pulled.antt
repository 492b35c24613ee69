-- What a master's answer pulls in, as a whole and piece by piece.
use Rattle.std.specs.Prelude.{◌≡◌, ℕ, List, [], ◌∷◌, ◌++◌, drop, map, Option, None, Some, Result, Ok, Err}
use Rattle.std.specs.List.{flat_map}
use Rattle.radio_heads.specs.declared.outcome.Progress.{Progress}
use Rattle.radio_heads.specs.declared.outcome.Progress.TheVariants.{More, Whole}
use Rattle.radio_heads.specs.declared.outcome.HeadFault.{HeadFault}
use Rattle.radio_heads.specs.Reading.{IsReading}
use Rattle.radio_heads.specs.Response.{ResponseParts, ShowsResponse}
use Rattle.radio_values.specs.Cleaning.{cleaned}
use Rattle.radio_values.specs.Limits.{max_title}
use Rattle.radio_icy.specs.Titles.{title_of}
use Rattle.radio_icy.specs.Unweaving.{StreamItem, SoundByte, WholeText, new_unweaving, after_feeding, atoms_of_piece}
use Rattle.radio_values.specs.declared.field.Shown.{Shown}
use Rattle.radio_relay.specs.declared.fault.PullFault.{PullFault}
use Rattle.radio_relay.specs.declared.fault.PullFault.TheVariants.{BadHead, Failed}
use Rattle.radio_relay.specs.declared.pull.PullStage.{PullStage}
use Rattle.radio_relay.specs.declared.pull.PullStage.TheVariants.{Head, Behind, Over}
use Rattle.radio_relay.specs.declared.stream.PulledStream.{PulledStream}
use Rattle.radio_relay.specs.declared.stream.PulledStream.TheVariants.{Plain, Woven}
use Rattle.radio_relay.specs.Answer.{interval_in, shown_in_response}

-- One thing that is pulled in: what the head shows, a byte of sound, or a title.
pub data PulledPart : Type 0 where
  ShownPart : Shown → PulledPart
  SoundPart : ℕ → PulledPart
  TitlePart : List ℕ → PulledPart

-- a title, cleaned, if there is one
abbrev pub title_parts : Option (List ℕ) → List PulledPart
title_parts None = []
title_parts (Some title) = TitlePart (cleaned max_title title) ∷ []

-- what is taken out of a woven stream: sound, or the title of a text, if it has one
abbrev pub parts_of_atom : StreamItem → List PulledPart
parts_of_atom (SoundByte b) = SoundPart b ∷ []
parts_of_atom (WholeText text) = title_parts (title_of text)

abbrev pub parts_heard : List StreamItem → List PulledPart
parts_heard atoms = flat_map parts_of_atom atoms

-- what bytes of the stream behind a head bring: without an interval all are sound, and with one sound and titles
abbrev pub stream_parts : PulledStream → List ℕ → List PulledPart
stream_parts Plain bytes = map (λ b. SoundPart b) bytes
stream_parts (Woven reader) bytes = parts_heard (atoms_of_piece reader bytes)

-- the stream after these bytes
abbrev pub after_bytes : PulledStream → List ℕ → PulledStream
after_bytes Plain bytes = Plain
after_bytes (Woven reader) bytes = Woven (after_feeding reader bytes)

-- a stream from its start, with a metadata block after each interval, if there is one
abbrev pub stream_with : Option ℕ → PulledStream
stream_with None = Plain
stream_with (Some n) = Woven (new_unweaving n)

-- the state of a pull: it goes on, or it stops with a fault
pub data PullProgress : Type 0 where
  GoesOn : PullStage → PullProgress
  Stops : PullFault → PullProgress

-- what is pulled in, in order, and the state of the pull then
pub record Pulled : Type 0 where
  pub parts : List PulledPart
  pub standing : PullProgress

abbrev pub goes_on : List PulledPart → PullStage → Pulled
goes_on parts stage = record { parts = parts; standing = GoesOn stage }

abbrev pub stops : PullFault → Pulled
stops fault = record { parts = []; standing = Stops fault }

-- these parts, and then those bytes of a stream
abbrev pub stream_pulled : List PulledPart → PulledStream → List ℕ → Pulled
stream_pulled before stream bytes = goes_on (before ++ stream_parts stream bytes) (Behind (after_bytes stream bytes))

-- a head with this interval or this fault, and the bytes behind it
abbrev pub pulled_by_interval : ResponseParts → List ℕ → Result (Option ℕ) PullFault → Pulled
pulled_by_interval head rest (Err fault) = stops fault
pulled_by_interval head rest (Ok interval) = stream_pulled (ShownPart (shown_in_response head) ∷ []) (stream_with interval) rest

-- a whole head, and the bytes behind it
abbrev pub answer_pulled : ResponseParts → List ℕ → Pulled
answer_pulled head rest = pulled_by_interval head rest (interval_in head)

-- bytes from the answer's start, by what its head is read as
abbrev pub pulled_as : List ℕ → Result (Progress ResponseParts) HeadFault → Pulled
pulled_as bytes (Ok More) = goes_on [] (Head bytes)
pulled_as bytes (Ok (Whole head length)) = answer_pulled head (drop length bytes)
pulled_as bytes (Err fault) = stops BadHead

-- what a master's answer pulls in: all bytes of it that have come
-- rule: Pulled stream
abbrev pub IsPulled : List ℕ → Pulled → Type 0
IsPulled bytes pulled =
    (reading : Result (Progress ResponseParts) HeadFault) × IsReading ShowsResponse bytes reading × (pulled ≡ pulled_as bytes reading)

-- what the next bytes pull in, at each stage
-- rule: Pulled stream
abbrev pub IsPulledAt : PullStage → List ℕ → Pulled → Type 0
IsPulledAt (Head held) bytes pulled = IsPulled (held ++ bytes) pulled
IsPulledAt (Behind stream) bytes pulled = pulled ≡ stream_pulled [] stream bytes
IsPulledAt Over bytes pulled = pulled ≡ stops Failed
