-- Sound and metadata blocks woven into one stream: one call, a run of calls, and the stream as a whole.
use Rattle.std.specs.Prelude.{ℕ, ◌+◌, List, [], ◌∷◌, ◌++◌, Option, None, nat_lt, if◌then◌else◌}
use Rattle.radio_icy.specs.Block.{metadata_block, news_of, sent_with}

-- A weaver: its interval, how many bytes of sound it has passed on since the last block, and the last title that it has sent.
pub record Weaving : Type 0 where
  pub interval : ℕ
  pub place : ℕ
  pub sent : Option (List ℕ)

-- a weaver that has passed on so many bytes since the last block, and has sent no title
abbrev pub from_place : ℕ → ℕ → Weaving
from_place n place = record { interval = n; place = place; sent = None }

-- a weaver at the start of a stream
abbrev pub new_weaving : ℕ → Weaving
new_weaving n = from_place n 0

-- the block that follows the next byte of sound: none inside the interval
abbrev pub block_after_byte : Weaving → Option (List ℕ) → List ℕ
block_after_byte w title =
    if nat_lt (w.place + 1) w.interval then [] else metadata_block (news_of title w.sent)

-- the weaver after one byte of sound
abbrev pub after_woven_byte : Weaving → Option (List ℕ) → Weaving
after_woven_byte w title =
    if nat_lt (w.place + 1) w.interval
    then record w { place = w.place + 1 }
    else record w { place = 0; sent = sent_with (news_of title w.sent) w.sent }

-- what is written for a piece of sound while a stream has this title
-- rule: Metadata count
abbrev pub woven : Weaving → Option (List ℕ) → List ℕ → List ℕ
woven w title [] = []
woven w title (b ∷ sound) = b ∷ (block_after_byte w title ++ woven (after_woven_byte w title) title sound)

-- the weaver after a piece of sound
-- rule: Metadata count
abbrev pub after_weaving : Weaving → Option (List ℕ) → List ℕ → Weaving
after_weaving w title [] = w
after_weaving w title (b ∷ sound) = after_weaving (after_woven_byte w title) title sound

-- one call of a weaver: a piece of sound, and the title of the stream at that moment
pub record Call : Type 0 where
  pub sound : List ℕ
  pub title : Option (List ℕ)

-- what is written for a list of calls
abbrev pub woven_by_calls : Weaving → List Call → List ℕ
woven_by_calls w [] = []
woven_by_calls w (c ∷ calls) =
    woven w c.title c.sound ++ woven_by_calls (after_weaving w c.title c.sound) calls

-- the weaver after them
abbrev pub after_calls : Weaving → List Call → Weaving
after_calls w [] = w
after_calls w (c ∷ calls) = after_calls (after_weaving w c.title c.sound) calls
