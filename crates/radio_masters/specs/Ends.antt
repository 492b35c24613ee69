-- Why relays end.
use Rattle.std.specs.Prelude.{ℕ, Bool, true, false, ◌==◌, Option, Some, if◌then◌else◌}
use Rattle.radio_events.specs.declared.state.Ending.{Ending}
use Rattle.radio_events.specs.declared.state.Ending.TheVariants.{By as ByRule, BadPull}
use Rattle.radio_policy.specs.declared.rule.Rule.TheVariants.{TooManySources}
use Rattle.radio_masters.specs.declared.relay_end.RelayEnd.{RelayEnd}
use Rattle.radio_masters.specs.declared.relay_end.RelayEnd.TheVariants.{By, Status}

-- If an answer cannot be pulled and its status is not 200, the relay ends by that status. Else it ends by the word that shut its
-- pull.
-- rule: Failures of relays
abbrev pub end_by : Ending → Option ℕ → RelayEnd
end_by BadPull (Some status) = if status == 200 then By BadPull else Status status
end_by ending status = By ending

-- no other relay would come up in its place
-- rule: Keeping a place
abbrev pub keeps_place : RelayEnd → Bool
keeps_place (By (ByRule TooManySources)) = true
keeps_place end = false
