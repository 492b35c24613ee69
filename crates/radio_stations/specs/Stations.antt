-- A history, and the connections and pulls that it is of.
use Rattle.std.specs.Prelude.{◌≡◌, ◌⊎◌, ℕ, List, [], map}
use Rattle.radio_settings_values.specs.declared.settings.Settings.{Settings}
use Rattle.radio_access.specs.Lists.{Lists}
use Rattle.radio_answers.specs.declared.web_answers.WebAnswers.{WebAnswers}
use Rattle.radio_parts_station.specs.World.{opening}
use Rattle.radio_chronicle.specs.History.{IsRun}
use Rattle.radio_hall.specs.Woven.{IsInterleaved}
use Rattle.radio_connections.specs.Serving.{IsHanded}
use Rattle.radio_headline.specs.Course.{Happening}
use Rattle.radio_headline.specs.Listeners.{CourseHearsSlices}
use Rattle.radio_stations.specs.Work.{IsOfConnections, Made, Roll, UnderLabel, closed, made_entries, gone, happening, here, pulled, unknown}

-- the events of a history, each with the label of the connection or pull for which it was applied
abbrev pub course_of : List Made → List Happening
course_of made = map happening made

-- the bytes that came there: those that the line of the connection gave, or those of the answer in a pull
abbrev pub given_by : UnderLabel → List ℕ
given_by (here c) = c.given
given_by (gone c) = c.given
given_by unknown = []
given_by closed = []
given_by (pulled given) = given

-- The line of the connection there took this text, and the bytes that still wait to be written are the rest of it. If it was cut off, its line
-- took a front of it; if it was closed, all of it. No replies are written in a pull.
abbrev pub IsHandedTo : UnderLabel → List ℕ → Type 0
IsHandedTo (here c) text = IsHanded c.status.fate text c.taken c.outgoing
IsHandedTo (gone c) text = IsHanded c.status.fate text c.taken c.outgoing
IsHandedTo unknown text = text ≡ []
IsHandedTo closed text = text ≡ []
IsHandedTo (pulled given) text = text ≡ []

-- The line of each label's connection takes what the replies there say. Over the course of the history each listener is given slices of what
-- its sources brought. These are the bytes of their lines, or of the answers of relays' masters.
pub record StationHearsSlices (web : WebAnswers) (settings : Settings) (lists : Lists) (made : List Made) (roll : Roll) : Type 0 where
  pub says : ℕ → List ℕ
  pub handed : (label : ℕ) → IsHandedTo (roll label) (says label)
  pub hears : CourseHearsSlices web settings lists (course_of made) (λ label. given_by (roll label)) says

-- If a history is a run from the opening state, of connections and pulls, its listeners are given slices of what its sources brought.
abbrev pub StationsHearSlices : Type 0
StationsHearSlices = (web : WebAnswers) (settings : Settings) (lists : Lists) (made : List Made) (roll : Roll)
    → IsRun (opening settings lists) (made_entries made) → IsOfConnections web made roll → StationHearsSlices web settings lists made roll

-- what the one has under a label, or else the other
abbrev pub either_has : UnderLabel → UnderLabel → UnderLabel
either_has unknown place = place
either_has (here c) place = here c
either_has (gone c) place = gone c
either_has closed place = closed
either_has (pulled given) place = pulled given

abbrev pub both_rolls : Roll → Roll → Roll
both_rolls one other = λ label. either_has (one label) (other label)

-- no label is known to both
abbrev pub AreDisjoint : Roll → Roll → Type 0
AreDisjoint one other = (label : ℕ) → (one label ≡ unknown) ⊎ (other label ≡ unknown)

-- What two workers made is of the connections and pulls of both, however it was woven, if each has labels of its own.
abbrev pub StationsAddUp : Type 0
StationsAddUp = (web : WebAnswers) (one other made : List Made) (roll more : Roll) → IsOfConnections web one roll → IsOfConnections web other more
    → AreDisjoint roll more → IsInterleaved one other made → IsOfConnections web made (both_rolls roll more)
