-- Scripts: their lines, and what the lines mean.
use Rattle.std.specs.Prelude.{ℕ, ◌+◌, ◌==◌, nat_lt, ◌||◌, List, [], ◌∷◌, length, Option, None, Some, Result, Ok, Err, if◌then◌else◌}
use Rattle.std.specs.Option.{ok_or}
use Rattle.radio_script.specs.Limits.{max_line, max_lines}
use Rattle.radio_script.specs.declared.delivery.Delivery.{Delivery}
use Rattle.radio_script.specs.declared.faults.PlayFault.{PlayFault}
use Rattle.radio_script.specs.declared.faults.PlayFault.TheVariants.{Line, TooMuch}
use Rattle.radio_script.specs.Delivery.{delivery_of}
use Rattle.radio_texts.specs.Cuts.{onto_first}

-- the lines of a script, without their line feeds; the last line may lack its line feed
-- rule: Line of a script
abbrev pub script_lines : List ℕ → List (List ℕ)
script_lines [] = []
script_lines (b ∷ script) = if b == 10 then [] ∷ script_lines script else onto_first b (script_lines script)

-- the meaning of the line of this number: a delivery, or the line's fault
-- rule: Line of a script
unfoldable pub meaning_of : ℕ → List ℕ → Result Delivery PlayFault
meaning_of number line =
    if nat_lt max_lines number || nat_lt max_line (length line)
    then Err TooMuch
    else ok_or (delivery_of line) (Line number)

-- a delivery and those that follow, or none after a fault
abbrev pub onto_delivery : Result Delivery PlayFault → List Delivery → List Delivery
onto_delivery (Ok delivery) deliveries = delivery ∷ deliveries
onto_delivery (Err fault) deliveries = []

-- the deliveries of the lines, up to the first line with a fault; the first line has this number
abbrev pub deliveries_from : ℕ → List (List ℕ) → List Delivery
deliveries_from number [] = []
deliveries_from number (line ∷ lines) =
    onto_delivery (meaning_of number line) (deliveries_from (number + 1) lines)

-- the fault of the first line, or else that of the lines that follow
abbrev pub fault_or : Result Delivery PlayFault → Option PlayFault → Option PlayFault
fault_or (Ok delivery) next = next
fault_or (Err fault) next = Some fault

-- the fault of the first line that has one
abbrev pub fault_from : ℕ → List (List ℕ) → Option PlayFault
fault_from number [] = None
fault_from number (line ∷ lines) = fault_or (meaning_of number line) (fault_from (number + 1) lines)
