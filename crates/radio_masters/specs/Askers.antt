-- A server, as a relay asks it.
use Rattle.std.specs.Prelude.{◌≡◌}
use Rattle.radio_events.specs.Servers.{Steps}
use Rattle.radio_masters.specs.Courses.{PullHasEnded, IsSayingOf, untried_course, logged_saying, after_saying}
use Rattle.radio_masters.specs.declared.relay_course.EndLine.{EndLine}
use Rattle.radio_masters.specs.declared.relay_course.RelayCourse.{RelayCourse}
use Rattle.radio_masters.specs.declared.relay_course.Saying.{Saying}
use Rattle.radio_masters.specs.declared.relay_log.PullEnd.{PullEnd}

-- the server, and what is noted of the relay
pub record AskedOf (S : Type 0) : Type 0 where
  pub server : S
  pub course : RelayCourse

-- of a relay that was not tried yet
abbrev pub untried_asker : {S : Type 0} → S → AskedOf S
untried_asker server = record { server = server; course = untried_course }

-- the server answers the event as it does unasked, and what is done of it is noted
abbrev pub AskedSteps : {S : Type 0} → Steps S → Steps (AskedOf S)
AskedSteps steps from event reply to =
    steps from.server event reply to.server × ((saying : Saying) × IsSayingOf event saying × (to.course ≡ after_saying from.course (logged_saying reply saying)))

-- the pull has ended so, and that is noted of the relay
abbrev pub HasEndedBy : {S : Type 0} → PullEnd → AskedOf S → AskedOf S → Type 0
HasEndedBy end from to = (to.server ≡ from.server) × ((line : EndLine) × PullHasEnded from.course end.why end.ms to.course line)
