-- A script as a course: what its deliveries brought on each connection, and what its transcript gave to each.
use Rattle.std.specs.Prelude.{◌≡◌, ℕ, ◌==◌, if◌then◌else◌, List, [], Option, None, Ok}
use Rattle.std.specs.List.{flat_map}
use Rattle.radio_settings_values.specs.declared.settings.Settings.{Settings}
use Rattle.radio_access.specs.Lists.{Lists}
use Rattle.radio_answers.specs.declared.web_answers.WebAnswers.{WebAnswers}
use Rattle.radio_script.specs.declared.delivery.Delivery.{Delivery}
use Rattle.radio_script.specs.declared.delivery.Delivery.TheVariants.{To}
use Rattle.radio_script.specs.declared.delivery.Input.{Input}
use Rattle.radio_script.specs.declared.delivery.Input.TheVariants.{Data}
use Rattle.radio_script.specs.Given.{TranscriptLine, AreLines, given, transcript_text}
use Rattle.radio_script.specs.Script.{deliveries_from, script_lines}
use Rattle.radio_floor.specs.LastWords.{LastWordsAreTold}
use Rattle.radio_floor.specs.Transcript.{IsTranscriptOf, PlaysScript}
use Rattle.radio_headline.specs.Course.{Happening, YieldsCourse}
use Rattle.radio_headline.specs.Listeners.{CourseHearsSlices}

abbrev pub bytes_in : Input → List ℕ
bytes_in (Data bytes) = bytes
bytes_in input = []

abbrev pub bytes_delivered : ℕ → Delivery → List ℕ
bytes_delivered label (To his input) = (if his == label then bytes_in input else [])
bytes_delivered label delivery = []

-- the bytes that come on the connection of the label, joined in their order
abbrev pub brought : List Delivery → ℕ → List ℕ
brought deliveries label = flat_map (bytes_delivered label) deliveries

-- The transcript is written by these lines, and by no others.
pub record IsWrittenBy (text : List ℕ) (lines : List TranscriptLine) : Type 0 where
  pub is_written : transcript_text lines ≡ text
  pub by_no_others : AreLines lines → (others : List TranscriptLine) → AreLines others → transcript_text others ≡ text → others ≡ lines

-- A script yields its transcript by a course. Over it the connections bring what the deliveries do, and are given what the transcript's lines do.
pub record HearsSlices (web : WebAnswers) (settings : Settings) (lists : Lists) (deliveries : List Delivery) (text : List ℕ) (stop : Option ℕ) : Type 0 where
  pub course : List Happening
  pub comes : YieldsCourse web settings lists deliveries text stop course
  pub lines : List TranscriptLine
  pub is_written : IsWrittenBy text lines
  pub hears : CourseHearsSlices web settings lists course (brought deliveries) (given lines)
  -- at each delivery that shuts a client's connection, the word by which it is shut, and the bytes before it
  pub last_words : LastWordsAreTold

abbrev pub ListenersHearSlices : Type 0
ListenersHearSlices = (web : WebAnswers) (settings : Settings) (lists : Lists) (deliveries : List Delivery) (text : List ℕ) (stop : Option ℕ)
    → IsTranscriptOf web settings lists deliveries text stop → HearsSlices web settings lists deliveries text stop

-- The same holds of each script that is played to its end, and of the data that its lines deliver.
abbrev pub PlayedScriptsHearSlices : Type 0
PlayedScriptsHearSlices = (web : WebAnswers) (settings : Settings) (lists : Lists) (script left text : List ℕ) (done : Unit {0}) (turns : ℕ)
    → PlaysScript web settings lists script left (Ok done) text turns → HearsSlices web settings lists (deliveries_from 1 (script_lines script)) text None
