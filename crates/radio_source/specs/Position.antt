-- A position in a body: what it represents, and runs of data ahead of it.
use Rattle.std.specs.Prelude.{ℕ, ◌-◌, List, min}
use Rattle.radio_source.specs.declared.position.Stage.{Stage}
use Rattle.radio_source.specs.declared.position.Stage.TheVariants.{Plain, Sized, Line, Chunk, LineFeed, Trailer, TrailerAfterReturn, TrailerRest, End}
use Rattle.radio_source.specs.declared.position.Stage.TheVariants.{BehindTheEnd, BadByte}
use Rattle.radio_source.specs.Place.{Place, InPlain, InSized, InLine, InChunk, AfterReturn, AtTrailer, AfterTrailerReturn, InTrailer, AtEnd, PastTheEnd, Broken}

-- the place at which the body expects this next, after so much of a chunk line
abbrev pub place_at_stage : Stage → List ℕ → Place
place_at_stage Plain line = InPlain
place_at_stage (Sized left) line = InSized left
place_at_stage Line line = InLine line
place_at_stage (Chunk left) line = InChunk left
place_at_stage LineFeed line = AfterReturn
place_at_stage (Trailer left) line = AtTrailer left
place_at_stage (TrailerAfterReturn left) line = AfterTrailerReturn left
place_at_stage (TrailerRest left) line = InTrailer left
place_at_stage End line = AtEnd
place_at_stage BehindTheEnd line = PastTheEnd
place_at_stage BadByte line = Broken

-- how many of the next n bytes are data, without a break
abbrev pub data_ahead : Place → ℕ → ℕ
data_ahead InPlain n = n
data_ahead (InSized left) n = min left n
data_ahead (InLine held) n = 0
data_ahead (InChunk left) n = min left n
data_ahead AfterReturn n = 0
data_ahead (AtTrailer left) n = 0
data_ahead (AfterTrailerReturn left) n = 0
data_ahead (InTrailer left) n = 0
data_ahead AtEnd n = 0
data_ahead PastTheEnd n = 0
data_ahead Broken n = 0

-- the place past n bytes of data
abbrev pub past_data : Place → ℕ → Place
past_data InPlain n = InPlain
past_data (InSized left) n = InSized (left - n)
past_data (InLine held) n = InLine held
past_data (InChunk left) n = InChunk (left - n)
past_data AfterReturn n = AfterReturn
past_data (AtTrailer left) n = AtTrailer left
past_data (AfterTrailerReturn left) n = AfterTrailerReturn left
past_data (InTrailer left) n = InTrailer left
past_data AtEnd n = AtEnd
past_data PastTheEnd n = PastTheEnd
past_data Broken n = Broken
