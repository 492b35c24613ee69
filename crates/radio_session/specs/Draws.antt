-- The bytes of a listener's draws, with metadata blocks between the data if it asked for them (ICY convention).
use Rattle.std.specs.Prelude.{ℕ, List, Option, None, Some, option_map}
use Rattle.radio_answers.specs.Answers.{sent_interval}
use Rattle.radio_icy.specs.Weaving.{Call, Weaving, new_weaving, woven, after_weaving, woven_by_calls}
use Rattle.radio_icy.specs.Stream.{sound_of_calls}

-- a draw: data, and the title that the mount had then
abbrev pub draw : List ℕ → Option (List ℕ) → Call
draw bytes title = record { sound = bytes; title = title }

-- the weaving of a listener with this interval, before its first data
abbrev pub weaver_at : Option ℕ → Option Weaving
weaver_at interval = option_map new_weaving (sent_interval interval)

-- the bytes of one draw
abbrev pub drawn : Option Weaving → Call → List ℕ
drawn None draw = draw.sound
drawn (Some w) draw = woven w draw.title draw.sound

-- the weaving after this draw
abbrev pub after_draw : Option Weaving → Call → Option Weaving
after_draw None draw = None
after_draw (Some w) draw = Some (after_weaving w draw.title draw.sound)

-- the bytes of draws, one after another
abbrev pub drawn_by : Option Weaving → List Call → List ℕ
drawn_by None draws = sound_of_calls draws
drawn_by (Some w) draws = woven_by_calls w draws

-- the bytes of all draws of a connection with this interval
-- rule: Metadata interval
abbrev pub joined_draws : Option ℕ → List Call → List ℕ
joined_draws interval draws = drawn_by (weaver_at interval) draws
