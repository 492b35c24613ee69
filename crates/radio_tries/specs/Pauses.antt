-- For how long threads of relays wait. Moments and times are in milliseconds.
use Rattle.std.specs.Prelude.{ℕ, Bool, ◌-◌, min, nat_le, if◌then◌else◌}
use Rattle.radio_tries.specs.declared.pause.Pause.{Pause}
use Rattle.radio_tries.specs.declared.pause.Pause.TheVariants.{Stops, Past, Waits}

-- so long after its last pull has ended a relay is tried again
abbrev pub rest : ℕ
rest = 5000

-- so long a master may answer nothing
abbrev pub most_silent : ℕ
most_silent = 10000

-- a thread waits at once for no longer than that, so as often it looks whether it is to stop
abbrev pub most_wait : ℕ
most_wait = 500

-- what a thread does that waits until a moment: it stops if it is to, goes on once the moment has come, and else waits, but not
-- beyond the moment
-- rule: Ten seconds
abbrev pub pause_at : Bool → ℕ → ℕ → Pause
pause_at stopped ms until =
    if stopped then Stops else if nat_le until ms then Past else Waits (min most_wait (until - ms))
