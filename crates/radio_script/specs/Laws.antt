-- What holds of every script, whatever its performer.
use Rattle.std.specs.Prelude.{ℕ, ◌≡◌, List, ◌++◌, Option, None}
use Rattle.std.specs.Io.{StartsWith}
use Rattle.radio_script.specs.declared.delivery.Delivery.{Delivery}
use Rattle.radio_script.specs.declared.faults.PlayFault.{PlayFault}
use Rattle.radio_script.specs.Script.{script_lines}
use Rattle.radio_script.specs.Runs.{Conduct}
use Rattle.radio_script.specs.Transcripts.{IsTranscript}
use Rattle.radio_script.specs.Plays.{IsLines}

-- from each performer, each delivery has one result
abbrev pub IsDetermined : {P : Type 0} → Conduct P → Type 0
IsDetermined {P} performs =
    (old : P) (delivery : Delivery) (said told : Option (List ℕ)) (new next : P)
    → performs old delivery said new → performs old delivery told next → (said ≡ told) × (new ≡ next)

-- from each performer, the lines of a script yield one text, one fault and one performer
abbrev pub HasOneTranscript : {P : Type 0} → Conduct P → Type 0
HasOneTranscript {P} performs =
    (old : P) (number : ℕ) (lines : List (List ℕ)) (text other : List ℕ)
    → (fault failure : Option PlayFault) (new next : P)
    → IsTranscript performs old number lines text fault new
    → IsTranscript performs old number lines other failure next
    → (text ≡ other) × (fault ≡ failure) × (new ≡ next)

-- more lines at the end change nothing before them: the transcript of whole lines is a front of that of more lines
abbrev pub GoesOnAsItBegan : {P : Type 0} → Conduct P → Type 0
GoesOnAsItBegan {P} performs =
    (old : P) (number : ℕ) (lines rest text whole : List ℕ)
    → (fault : Option PlayFault) (between new : P) → IsLines lines
    → IsTranscript performs old number (script_lines lines) text None between
    → IsTranscript performs old number (script_lines (lines ++ rest)) whole fault new
    → StartsWith whole text
