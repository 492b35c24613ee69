-- What is noted of a relay for the log, and what is logged of it.
use Rattle.std.specs.Prelude.{◌≡◌, ◌⊎◌, ℕ, true, false, ◌+◌, ◌-◌, ◌^◌, min, List, [], length, Option, None, Some, MatchBool}
use Rattle.radio_events.specs.declared.event.Event.{Event}
use Rattle.radio_events.specs.declared.event.Event.TheVariants.{RelayUp as RelayComesUp, Push, Title as SetsTitle}
use Rattle.radio_events.specs.declared.reply.Reply.{Reply}
use Rattle.radio_events.specs.declared.reply.Reply.TheVariants.{Arrived, Noted}
use Rattle.radio_masters.specs.declared.failing.Failing.{Failing}
use Rattle.radio_masters.specs.declared.relay_course.EndLine.{EndLine}
use Rattle.radio_masters.specs.declared.relay_course.EndLine.TheVariants.{Nothing as NoLine, Gone, Failed}
use Rattle.radio_masters.specs.declared.relay_course.RelayCourse.{RelayCourse}
use Rattle.radio_masters.specs.declared.relay_course.Saying.{Saying}
use Rattle.radio_masters.specs.declared.relay_course.Saying.TheVariants.{Nothing, Up, Sound, Title}
use Rattle.radio_masters.specs.declared.relay_end.RelayEnd.{RelayEnd}
use Rattle.radio_masters.specs.Failures.{FailureIsNoted}

-- a copy of a text; an empty one if memory was refused for it
abbrev pub IsCopyOf : List ℕ → List ℕ → Type 0
IsCopyOf text copy = (copy ≡ text) ⊎ (copy ≡ [])

-- what is to be logged of an event if it is done: that a relay comes up, how much sound has come, and a
-- title
abbrev pub IsSayingOf : Event → Saying → Type 0
IsSayingOf (RelayComesUp mount shown) (Up text) = IsCopyOf shown.content_type text.items
IsSayingOf (RelayComesUp mount shown) saying = ⊥
IsSayingOf (Push id block) saying = saying ≡ Sound (length block)
IsSayingOf (SetsTitle id text) (Title title) = IsCopyOf text title.items
IsSayingOf (SetsTitle id text) saying = ⊥
IsSayingOf event saying = saying ≡ Nothing

-- what of it is logged, by the reply: a relay is up if it has a number, and sound and titles count if they were
-- taken
abbrev pub logged_saying : Reply → Saying → Saying
logged_saying (Arrived id) (Up text) = Up text
logged_saying Noted (Sound count) = Sound count
logged_saying Noted (Title title) = Title title
logged_saying reply saying = Nothing

-- a relay that was not tried yet
abbrev pub untried_course : RelayCourse
untried_course = record { is_up = false; sound = 0; failing = None }

-- a relay that has just come up: what was before is forgotten
abbrev pub up : RelayCourse
up = record { is_up = true; sound = 0; failing = None }

-- more sound has come; a count has 64 bits
abbrev pub sounded : RelayCourse → ℕ → RelayCourse
sounded course count = record course { sound = min (2 ^ 64 - 1) (course.sound + count) }

-- what is noted once this is logged
abbrev pub after_saying : RelayCourse → Saying → RelayCourse
after_saying course (Up text) = up
after_saying course (Sound count) = sounded course count
after_saying course (Title title) = course
after_saying course Nothing = course

-- the line of a failure that is logged so often, if it is logged
abbrev pub failure_line : Option ℕ → EndLine
failure_line None = NoLine
failure_line (Some times) = Failed times

-- the pull of a relay that was not up has ended: it has failed, which is logged as `FailureIsNoted` says
abbrev pub HasFailed : RelayCourse → RelayEnd → ℕ → RelayCourse → EndLine → Type 0
HasFailed course why ms after line =
    (failed : Failing) × (logged : Option ℕ) × FailureIsNoted course.failing why ms failed logged
    × (after ≡ record course { failing = Some failed }) × (line ≡ failure_line logged)

-- the pull has ended: a relay that was up is gone
-- rule: Failures of relays
abbrev pub PullHasEnded : RelayCourse → RelayEnd → ℕ → RelayCourse → EndLine → Type 0
PullHasEnded course why ms after line =
    MatchBool course.is_up ((after ≡ record course { is_up = false }) × (line ≡ Gone)) (HasFailed course why ms after line)
