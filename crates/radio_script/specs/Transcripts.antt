-- The transcript of a script: the lines that the run of its deliveries writes.
use Rattle.std.specs.Prelude.{ℕ, ◌≡◌, List, Option, None, Some}
use Rattle.radio_script.specs.declared.faults.PlayFault.{PlayFault}
use Rattle.radio_script.specs.declared.faults.PlayFault.TheVariants.{Line}
use Rattle.radio_script.specs.Script.{deliveries_from, fault_from}
use Rattle.radio_script.specs.Runs.{Conduct, Runs}

-- the fault of the line at which the run stopped, or else the fault of the lines; each delivery is one line
abbrev pub run_fault : Option ℕ → Option PlayFault → Option PlayFault
run_fault (Some number) fault = Some (Line number)
run_fault None fault = fault

-- The performer old gets the lines of a script, the first of which has this number.
module _ {P : Type 0} (performs : Conduct P) (old : P) (number : ℕ) (lines : List (List ℕ)) where
  -- The lines yield the text, up to the first line with a fault, and leave the performer new.
  pub record IsTranscript (text : List ℕ) (fault : Option PlayFault) (new : P) : Type 0 where
    pub stop : Option ℕ
    pub run : Runs performs old number (deliveries_from number lines) text stop new
    pub ends : fault ≡ run_fault stop (fault_from number lines)
