-- The transcript of deliveries and of scripts, of a server of some settings to which nothing has happened yet.
use Rattle.std.specs.Prelude.{ℕ, List, Option, Result}
use Rattle.radio_settings_values.specs.declared.settings.Settings.{Settings}
use Rattle.radio_access.specs.Lists.{Lists}
use Rattle.radio_script.specs.declared.delivery.Delivery.{Delivery}
use Rattle.radio_answers.specs.declared.web_answers.WebAnswers.{WebAnswers}
use Rattle.radio_script.specs.declared.faults.PlayFault.{PlayFault}
use Rattle.radio_floor.specs.ScriptState.{ScriptState, opening_script, IsPerformed}
use Rattle.radio_script.specs.Runs.{Conduct, Runs}
use Rattle.radio_script.specs.Plays.{Plays}

-- from this state the delivery yields these lines, or is at fault, and leads to that state
abbrev pub conduct : WebAnswers → Conduct ScriptState
conduct web old delivery lines new = IsPerformed web old delivery (record { lines = lines; state = new })

-- the text is the transcript of the deliveries, up to the number of the first whose label is at fault, if there is one
-- rule: Line of a script
abbrev pub IsTranscriptOf : WebAnswers → Settings → Lists → List Delivery → List ℕ → Option ℕ → Type 0
IsTranscriptOf web settings lists deliveries text stop = (last : ScriptState)
    × Runs (conduct web) (opening_script settings lists) 1 deliveries text stop last

-- a script was played so: what was left unread, the result, what was written, and in how many turns
-- rule: Script without memory; Line of a script; Fault of a script
abbrev pub PlaysScript : WebAnswers → Settings → Lists → List ℕ → List ℕ → Result (Unit {0}) PlayFault → List ℕ → ℕ → Type 0
PlaysScript web settings lists script left result written turns = (last : ScriptState)
    × Plays (conduct web) (opening_script settings lists) 1 script left result written turns last
