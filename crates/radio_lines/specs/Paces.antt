-- How fast sources are read, and how long a thread's lines let its next turn wait.
use Rattle.std.specs.Prelude.{ℕ, Bool, true, false, ◌==◌, nat_le, not, ◌&&◌, min}
use Rattle.radio_lines.specs.declared.activity.Need.{Need}
use Rattle.radio_lines.specs.declared.activity.Need.TheVariants.{Nothing, Held, More}
use Rattle.radio_lines.specs.declared.pace.Pace.{Pace}
use Rattle.radio_lines.specs.declared.pace.Pace.TheVariants.{Free, Slow, Stopped}

-- whether the line of a source gives nothing at a moment, in milliseconds, that gave something at another one last
-- rule: Sources wait
abbrev pub holds : Pace → ℕ → ℕ → Bool
holds Free gave ms = false
holds Slow gave ms = gave == ms
holds Stopped gave ms = true

-- the number by which a pace is shared
abbrev pub pace_number : Pace → ℕ
pace_number Free = 0
pace_number Slow = 1
pace_number Stopped = 2

-- whether a line has given so many bytes as only that of a source does, and they are wanted
abbrev pub is_source_line : ℕ → Bool → Bool
is_source_line gave passed_over = nat_le 16384 gave && not passed_over

-- there is something to do in the next turn, or nothing
abbrev pub more_if : Bool → Need
more_if true = More
more_if false = Nothing

-- the more urgent of two needs
abbrev pub more_urgent : Need → Need → Need
more_urgent Nothing other = other
more_urgent Held Nothing = Held
more_urgent Held Held = Held
more_urgent Held More = More
more_urgent More other = More

-- the number by which a need is shared
abbrev pub need_number : Need → ℕ
need_number Nothing = 0
need_number Held = 1
need_number More = 2

-- for how many milliseconds the next turn waits at most: not at all if a line has something to do, one if a line was held back
abbrev pub turn_wait : Need → ℕ → ℕ
turn_wait Nothing longest = longest
turn_wait Held longest = min longest 1
turn_wait More longest = 0
