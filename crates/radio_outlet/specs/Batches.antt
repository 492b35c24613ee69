-- The lines that are being written.
use Rattle.std.specs.Prelude.{ℕ, List, [], ◌∷◌, ◌+◌, ◌-◌, ◌==◌, Bool, if◌then◌else◌, drop, Option, Some, None, slice_index, position}
use Rattle.radio_outlet.specs.declared.batch.LinePlace.{LinePlace}
use Rattle.radio_outlet.specs.declared.batch.LinePlace.TheVariants.{LineStart, WithinLine, TornLine}

-- where the last byte that was written is, and the bytes that are left
pub record InHand : Type 0 where
  pub place : LinePlace
  pub rest : List ℕ

-- what is written next
-- rule: Log failures
abbrev pub next_bytes : InHand → List ℕ
next_bytes b = next b.place b.rest where
  next : LinePlace → List ℕ → List ℕ
  next LineStart rest = rest
  next WithinLine rest = rest
  next TornLine rest = 10 ∷ []

-- the place behind a byte
abbrev pub place_behind : ℕ → LinePlace
place_behind byte = if byte == 10 then LineStart else WithinLine

-- some of the next bytes were written, so many
abbrev pub some_written : ℕ → LinePlace → List ℕ → InHand
some_written count TornLine rest = record { place = LineStart; rest = rest }
some_written count LineStart rest = record { place = place_behind (slice_index rest (count - 1)); rest = drop count rest }
some_written count WithinLine rest = record { place = place_behind (slice_index rest (count - 1)); rest = drop count rest }

-- so many of the next bytes were written
-- rule: Log failures
abbrev pub with_written : ℕ → InHand → InHand
with_written count b = if count == 0 then b else some_written count b.place b.rest

-- whether a byte ends a line
abbrev pub is_line_end : ℕ → Bool
is_line_end byte = byte == 10

-- what is behind the first line end
abbrev pub behind_line : List ℕ → List ℕ
behind_line bytes = behind bytes (position is_line_end bytes) where
  behind : List ℕ → Option ℕ → List ℕ
  behind bytes None = []
  behind bytes (Some at) = drop (at + 1) bytes

-- a write has failed: the rest of a line that was begun is lost
-- rule: Log failures
abbrev pub cut_off : InHand → InHand
cut_off b = cut b.place b.rest where
  cut : LinePlace → List ℕ → InHand
  cut WithinLine rest = record { place = TornLine; rest = behind_line rest }
  cut LineStart rest = record { place = LineStart; rest = rest }
  cut TornLine rest = record { place = TornLine; rest = rest }

-- how many lines are lost by it
abbrev pub lost_by_cut : LinePlace → ℕ
lost_by_cut WithinLine = 1
lost_by_cut LineStart = 0
lost_by_cut TornLine = 0
