-- The replies to a source depend on its data, and not on how they are cut into blocks.
use Rattle.std.specs.Prelude.{◌≡◌, ◌⊎◌, ℕ, ◌+◌, nat_lt, Bool, true, false, List, ◌++◌, length, Option, None, Some}
use Rattle.radio_blocks.specs.Block.{IsBlock}
use Rattle.radio_policy.specs.declared.rule.Rule.TheVariants.{NumbersSpent}
use Rattle.radio_events.specs.declared.event.Event.TheVariants.{Push, SourceEnd}
use Rattle.radio_parts_station.specs.StationState.{StationState}
use Rattle.radio_events.specs.declared.reply.Reply.{Reply}
use Rattle.radio_events.specs.declared.reply.Reply.TheVariants.{Noted, Deny, Stray}
use Rattle.radio_events.specs.Replies.{IsQuiet, EndsByRule}
use Rattle.radio_parts_station.specs.declared.standing.Standing.{Standing}
use Rattle.radio_parts_station.specs.declared.standing.Standing.TheVariants.{Feeds}
use Rattle.radio_parts_station.specs.Facts.{largest_number}
use Rattle.radio_parts.specs.Outcomes.{out_of_place}
use Rattle.radio_parts_mount.specs.Sessions.{Session, session_of}
use Rattle.radio_parts.specs.Step.{reply_to, world_after}
use Rattle.radio_parts_mount.specs.Stream.{end_of}
use Rattle.radio_parts_station.specs.World.{World, standing_of, has_relay}

-- whether there are too many for the numbers of a stream
abbrev pub unless_spent : Bool → Reply
unless_spent true = Deny NumbersSpent
unless_spent false = Noted

-- a session is delivered data
abbrev pub to_session : Option Session → List ℕ → Reply
to_session None bytes = Noted
to_session (Some session) bytes = unless_spent (nat_lt largest_number (end_of session.stream + length bytes))

abbrev pub to_data_from : Standing → StationState → List ℕ → Reply
to_data_from (Feeds mount) station bytes = to_session (session_of station.live mount) bytes
to_data_from standing station bytes = (out_of_place standing).reply

-- a relay's data end with its connection, so their end is out of place
abbrev pub to_feeders_end : Bool → Reply
to_feeders_end true = Stray
to_feeders_end false = Noted

abbrev pub to_end_from : Bool → Standing → Reply
to_end_from relayed (Feeds mount) = to_feeders_end relayed
to_end_from relayed standing = (out_of_place standing).reply

-- the reply to data from this client, and to their end
unfoldable pub to_data : World → ℕ → List ℕ → Reply
to_data w id bytes = to_data_from (standing_of w id) w.station bytes

unfoldable pub to_end : World → ℕ → Reply
to_end w id = to_end_from (has_relay w id) (standing_of w id)

-- the reply to a block is the reply to its data. While the source goes on, more data get the reply that all of them would get at once.
-- what a rule has ended stays ended by it
pub record IsToldByData (w : World) (id : ℕ) (block : List ℕ) : Type 0 where
  pub at_block : reply_to w (Push id block) ≡ to_data w id block
  pub kinds : IsQuiet (reply_to w (Push id block)) ⊎ EndsByRule (reply_to w (Push id block))
  pub more : (rest : List ℕ) → IsQuiet (reply_to w (Push id block)) → to_data w id (block ++ rest) ≡ to_data (world_after w (Push id block)) id rest
  pub end_stays : IsQuiet (reply_to w (Push id block)) → to_end w id ≡ to_end (world_after w (Push id block)) id
  pub rule_stays : (rest : List ℕ) → EndsByRule (reply_to w (Push id block)) → to_data w id (block ++ rest) ≡ reply_to w (Push id block)

-- rule: Cuts do not matter
abbrev pub SourcesAreToldByTheirData : Type 0
SourcesAreToldByTheirData = (w : World) (id : ℕ) (block : List ℕ) → IsBlock block → IsToldByData w id block

abbrev pub EndsAreTold : Type 0
EndsAreTold = (w : World) (id : ℕ) → reply_to w (SourceEnd id) ≡ to_end w id
