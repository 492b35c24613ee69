-- What happens on connections that are served event by event, as workers serve theirs: the other way to a course.
use Rattle.std.specs.Prelude.{◌≡◌, ℕ, List, [], ◌∷◌, ◌++◌, None}
use Rattle.std.specs.List.{AllByRecursion}
use Rattle.radio_addr.specs.declared.peer.Peer.{Peer}
use Rattle.radio_settings_values.specs.declared.settings.Settings.{Settings}
use Rattle.radio_access.specs.Lists.{Lists}
use Rattle.radio_events.specs.declared.entry.Entry.{Entry}
use Rattle.radio_events.specs.declared.event.Event.TheVariants.{Arrive, Leave, Clock}
use Rattle.radio_events.specs.declared.reply.Reply.{Reply}
use Rattle.radio_events.specs.declared.reply.Reply.TheVariants.{Arrived}
use Rattle.radio_events.specs.Events.{entry}
use Rattle.radio_parts_station.specs.World.{opening}
use Rattle.radio_answers.specs.declared.web_answers.WebAnswers.{WebAnswers}
use Rattle.radio_relay.specs.Applied.{PullCourse, PullSoFar}
use Rattle.radio_connections.specs.Course.{Arrival, Course as ConnectionCourse, LetsNobodyIn, Standing}
use Rattle.radio_headline.specs.Course.{Happening, log_on}
use Rattle.radio_headline.specs.Listeners.{CourseHearsSlices}

-- the connection of a client that was let in has this course. With these settings of answers its line gave these bytes. These entries were
-- made for it, and this was written of the replies
pub record HasCourse (web : WebAnswers) (id : ℕ) (bytes : List ℕ) (entries : List Entry) (text : List ℕ) : Type 0 where
  pub arrival : Arrival
  pub let_in : arrival.reply ≡ Arrived id
  pub answers : arrival.web ≡ web
  pub standing : Standing
  pub course : ConnectionCourse arrival id standing
  pub same_given : standing.given ≡ bytes
  pub same_entries : standing.entries ≡ entries
  pub same_text : standing.text ≡ text

-- what is applied under a label whose connection brought these bytes and was written this
pub data HasHappened (web : WebAnswers) (bytes : List ℕ) (entries : List Entry) (text : List ℕ) : Type 0 where
  -- nothing
  NothingWas : entries ≡ [] → HasHappened web bytes entries text
  -- a client came, and was not let in
  WasTurnedAway : (peer : Peer) (reply : Reply) → LetsNobodyIn reply → entries ≡ entry (Arrive peer) reply ∷ [] → HasHappened web bytes entries text
  -- the course of its connection
  WasServed : (id : ℕ) → HasCourse web id bytes entries text → HasHappened web bytes entries text
  -- the course of its connection, and that its client was let go behind that
  WasLetGo : (id : ℕ) (made : List Entry) (reply : Reply) → HasCourse web id bytes made text → entries ≡ made ++ entry (Leave id) reply ∷ []
      → HasHappened web bytes entries text
  -- the course of a relay's pull, whose master's answer gave these bytes
  WasPulled : (mount : List ℕ) (pull : PullSoFar) → PullCourse mount pull → pull.given ≡ bytes → pull.entries ≡ entries → text ≡ []
      → HasHappened web bytes entries text

-- it comes on a connection, or gives a moment
abbrev pub HasLabelOrMoment : Happening → Type 0
HasLabelOrMoment happening = happening.label ≡ None → (ms : ℕ) × (happening.event ≡ Clock ms)

-- Over any course from the opening state, its listeners are given slices of what the connections of its sources and relays brought. Its events
-- under each label are those of a connection that is served event by event, or of a relay's pull.
abbrev pub ServedCoursesHearSlices : Type 0
ServedCoursesHearSlices = (web : WebAnswers) (settings : Settings) (lists : Lists) (course : List Happening) (brought given : ℕ → List ℕ)
    → AllByRecursion HasLabelOrMoment course
    → ((label : ℕ) → HasHappened web (brought label) (log_on (opening settings lists) course label) (given label))
    → CourseHearsSlices web settings lists course brought given
