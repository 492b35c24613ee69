-- What a body puts out over all its feeds.
use Rattle.std.specs.Prelude.{ℕ, List, [], ◌∷◌, ◌++◌, map, Bool, true, false, Option, None, Some}
use Rattle.std.specs.List.{concat}
use Rattle.radio_source.specs.declared.fault.BodyFault.{BodyFault}
use Rattle.radio_source.specs.declared.fault.BodyFault.TheVariants.{BadChunk, PastEnd, OutOfMemory, Failed}
use Rattle.radio_source.specs.Place.{Place, after, data_of, has_ended, fault_at}
use Rattle.radio_source.specs.Feeding.{Feeding, Answer, Brings, Refuses, answer_to, after_feed}

-- one thing put out: a byte of data, the body's end, or a fault
pub data Output : Type 0 where
  OutputByte : ℕ → Output
  OutputEnd : Output
  OutputFault : BodyFault → Output

abbrev pub byte_outputs : List ℕ → List Output
byte_outputs bytes = map (λ b. OutputByte b) bytes

abbrev pub end_outputs : Bool → List Output
end_outputs true = OutputEnd ∷ []
end_outputs false = []

abbrev pub fault_outputs : Option BodyFault → List Output
fault_outputs None = []
fault_outputs (Some fault) = OutputFault fault ∷ []

-- what an answer puts out; `Failed` has nothing that was not put out before
abbrev pub outputs_of : Answer → List Output
outputs_of (Brings blocks is_complete) = byte_outputs (concat blocks) ++ end_outputs is_complete
outputs_of (Refuses BadChunk) = OutputFault BadChunk ∷ []
outputs_of (Refuses PastEnd) = OutputFault PastEnd ∷ []
outputs_of (Refuses OutOfMemory) = OutputFault OutOfMemory ∷ []
outputs_of (Refuses Failed) = []

-- what the feeds of some pieces put out, one after another
-- rule: Feed
abbrev pub outputs_of_feeds : Feeding → List (List ℕ) → List Output
outputs_of_feeds body [] = []
outputs_of_feeds body (piece ∷ pieces) = outputs_of (answer_to body piece) ++ outputs_of_feeds (after_feed body piece) pieces

-- what some bytes mean, from a place: their data, then the end, if it has come, then the fault, if there is one
-- rule: Feed
abbrev pub outputs_of_bytes : Place → List ℕ → List Output
outputs_of_bytes place bytes =
    byte_outputs (data_of place bytes)
    ++ (end_outputs (has_ended (after place bytes)) ++ fault_outputs (fault_at (after place bytes)))
