-- The server as the performer of a script's deliveries.
use Rattle.std.specs.Prelude.{◌≡◌, ℕ, List, ◌++◌, Option, None, Some, Result, Ok, Err, ⊤}
use Rattle.radio_parts_station.specs.World.{World}
use Rattle.radio_core.specs.Represents.{Represents}
use Rattle.radio_script.specs.declared.delivery.Delivery.{Delivery}
use Rattle.radio_script.specs.declared.faults.PerformFault.{PerformFault}
use Rattle.radio_script.specs.declared.faults.PerformFault.TheVariants.{Label, OutOfMemory}
use Rattle.radio_answers.specs.declared.web_answers.WebAnswers.{WebAnswers}
use Rattle.radio_floor.specs.declared.labelled.Labelled.{Labelled}
use Rattle.radio_floor.specs.ScriptState.{IsPerformed}
use Rattle.radio_floor.specs.ScriptServer.{script_state_of, performed_as}

-- Whatever state the core represented, the delivery yields these lines from it, and the core represents the state after it.
abbrev pub Performs : WebAnswers → World → List Labelled → Delivery → Option (List ℕ) → World → List Labelled → Type 0
Performs web core connections delivery lines core' connections' = (w : World) → Represents core w →
    (w' : World) × Represents core' w' × IsPerformed web (script_state_of w connections) delivery (performed_as lines w' connections')

-- the delivery is performed, or its label is at fault. If memory was refused, nothing is stated
abbrev pub PerformsAs : WebAnswers → Result (Unit {0}) PerformFault → World → List Labelled → Delivery → List ℕ → List ℕ → World → List Labelled → Type 0
PerformsAs web (Ok done) core connections delivery lines lines' core' connections' = (text : List ℕ) × (lines' ≡ lines ++ text)
    × Performs web core connections delivery (Some text) core' connections'
PerformsAs web (Err Label) core connections delivery lines lines' core' connections' = Performs web core connections delivery None core' connections'
PerformsAs web (Err OutOfMemory) core connections delivery lines lines' core' connections' = ⊤
