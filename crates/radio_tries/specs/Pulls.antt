-- Why pulls end. Moments and times are in milliseconds.
use Rattle.std.specs.Prelude.{◌≡◌, ℕ, Bool, true, false, ◌-◌, nat_le, not, ◌&&◌, Option, Some, None, is_some, Result, if◌then◌else◌}
use Rattle.radio_heads.specs.declared.outcome.HeadFault.{HeadFault}
use Rattle.radio_heads.specs.declared.outcome.Progress.{Progress}
use Rattle.radio_heads.specs.Reading.{IsReading}
use Rattle.radio_heads.specs.Response.{ResponseParts, ShowsResponse}
use Rattle.radio_masters.specs.declared.mount_pull.PullTurn.{PullTurn}
use Rattle.radio_masters.specs.declared.mount_pull.PullTurn.TheVariants.{Running, Shut, Closed, Failed, OutOfMemory}
use Rattle.radio_masters.specs.declared.relay_end.RelayEnd.{RelayEnd}
use Rattle.radio_masters.specs.declared.relay_end.RelayEnd.TheVariants.{NoAnswer, Left, OutOfMemory as NoMemory}
use Rattle.radio_masters.specs.Ends.{end_by}
use Rattle.radio_masters.specs.Pulls.{PullOver, status_in}
use Rattle.radio_tries.specs.Pauses.{most_silent}

-- a master that has not answered at a moment is given up, of which a relay has asked at that one
-- rule: Ten seconds
abbrev pub is_late : ℕ → ℕ → Bool
is_late began ms = nat_le most_silent (ms - began)

-- a relay whose connection is lost was left by its master if it was up, and else has had no answer
abbrev pub lost : Bool → RelayEnd
lost true = Left
lost false = NoAnswer

-- the next address of a master is tried only if this one has not answered
-- rule: Ten seconds
abbrev pub is_no_answer : RelayEnd → Bool
is_no_answer NoAnswer = true
is_no_answer end = false

-- by its last turn a pull, of a master that is late or not, ends so: what shuts it ends it, with the status of the answer
abbrev pub EndsBy : PullTurn → PullOver → Bool → Option RelayEnd → Type 0
EndsBy Running pull late end = end ≡ (if late && not (is_some pull.relay.number) then Some NoAnswer else None)
EndsBy (Shut ending) pull late end =
    (reading : Result (Progress ResponseParts) HeadFault) × IsReading ShowsResponse pull.front reading × (end ≡ Some (end_by ending (status_in reading)))
EndsBy Closed pull late end = end ≡ Some (lost (is_some pull.relay.number))
EndsBy Failed pull late end = end ≡ Some (lost (is_some pull.relay.number))
EndsBy OutOfMemory pull late end = end ≡ Some NoMemory
