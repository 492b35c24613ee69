-- The outcome of an event: the reply, and the change of the state.
use Rattle.std.specs.Prelude.{ℕ, Bool, true, false, List}
use Rattle.radio_policy.specs.declared.judgement.Verdict.{Verdict}
use Rattle.radio_policy.specs.declared.judgement.Verdict.TheVariants.{Allow, Deny as Denied}
use Rattle.radio_addr.specs.declared.peer.Peer.{Peer}
use Rattle.radio_events.specs.declared.reply.Reply.{Reply}
use Rattle.radio_events.specs.declared.reply.Reply.TheVariants.{Deny, Finished, Stray}
use Rattle.radio_parts_changes.specs.declared.change.Change.{Change}
use Rattle.radio_parts_changes.specs.declared.change.Change.TheVariants.{Nothing}
use Rattle.radio_parts.specs.declared.outcome.Outcome.{Outcome}
use Rattle.radio_parts_station.specs.declared.standing.Standing.{Standing}
use Rattle.radio_parts_station.specs.declared.standing.Standing.TheVariants.{Undecided, Feeds, Sits, Finished as HasFinished}

abbrev pub says : Reply → Change → Outcome
says reply change = record { reply = reply; change = change }

-- what the policy allows happens; what it denies is denied by its rule
abbrev pub on_verdict : Verdict → Change → Outcome → Outcome
on_verdict Allow denied allowed = allowed
on_verdict (Denied rule) denied allowed = says (Deny rule) denied

-- an event that does not fit the standing of its client: the reply names the rule if it has finished,
-- and nothing changes
-- rule: Out of place
abbrev pub out_of_place : Standing → Outcome
out_of_place (HasFinished rule) = says (Finished rule) Nothing
out_of_place standing = says Stray Nothing

-- only a client that has asked for nothing yet may do it
-- rule: Out of place
abbrev pub if_undecided : Standing → (Peer → Outcome) → Outcome
if_undecided (Undecided peer) go = go peer
if_undecided standing go = out_of_place standing

-- only a source may do it
-- rule: Out of place
abbrev pub if_feeding : Standing → (List ℕ → Outcome) → Outcome
if_feeding (Feeds mount) go = go mount
if_feeding standing go = out_of_place standing

-- no relay may do it
-- rule: Out of place
abbrev pub unless_relayed : Bool → Outcome → Outcome
unless_relayed true go = says Stray Nothing
unless_relayed false go = go

-- only a listener that has a seat may do it
-- rule: Out of place
abbrev pub if_sitting : Standing → Outcome → Outcome
if_sitting Sits go = go
if_sitting standing go = out_of_place standing
