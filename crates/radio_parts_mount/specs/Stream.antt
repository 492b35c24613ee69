use Rattle.std.specs.Prelude.{ℕ, ◌-◌, ◌≤◌, nat_le, List, [], ◌∷◌, ◌++◌, length, take, drop, find, unwrap_or}
use Rattle.radio_tables.specs.Lists.{Each}

-- the data of a session: all its bytes from its first block on, and the places where blocks start
pub record WholeStream : Type 0 where
  pub bytes : List ℕ
  pub starts : List ℕ

-- a session that has delivered nothing
abbrev pub no_data : WholeStream
no_data = record { bytes = []; starts = [] }

-- the stream's end: the place behind its last byte
abbrev pub end_of : WholeStream → ℕ
end_of stream = length stream.bytes

-- a block comes at the end
abbrev pub with_block : WholeStream → List ℕ → WholeStream
with_block stream block = record { bytes = stream.bytes ++ block; starts = stream.starts ++ end_of stream ∷ [] }

-- where a new listener begins: the first block start that is at most so many bytes before the end, or the end
-- rule: Start of the burst
abbrev pub burst_start : WholeStream → ℕ → ℕ
burst_start stream burst = unwrap_or (find (λ start. nat_le (end_of stream - start) burst) stream.starts) (end_of stream)

-- what a listener at the place is handed who has room for so many bytes
-- rule: Draws
abbrev pub data_at : WholeStream → ℕ → ℕ → List ℕ
data_at stream place room = take room (drop place stream.bytes)

-- the places do not fall, and none is past the last
abbrev pub AreRising : List ℕ → ℕ → Type 0
AreRising [] last = Unit {0}
AreRising (place ∷ places) last = (place ≤ last) × Each (λ next. place ≤ next) places × AreRising places last
