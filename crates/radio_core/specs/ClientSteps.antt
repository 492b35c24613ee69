-- What an event does to the standing of one client or relay.
use Rattle.std.specs.Prelude.{◌≡◌, ℕ, ◌<◌, true, false, List, Some}
use Rattle.radio_policy.specs.declared.rule.Rule.{Rule}
use Rattle.radio_policy.specs.declared.judgement.Verdict.TheVariants.{Allow}
use Rattle.radio_policy.specs.Verdicts.{verdict_in}
use Rattle.radio_addr.specs.declared.peer.Peer.{Peer}
use Rattle.radio_values.specs.declared.field.Shown.{Shown}
use Rattle.radio_access.specs.Lists.{passes}
use Rattle.radio_events.specs.declared.event.Event.{Event}
use Rattle.radio_events.specs.declared.event.Event.TheVariants.{Arrive, Source, SourceEnd, Listen, Leave, RelayUp, RelayDown}
use Rattle.radio_events.specs.declared.event.SourceRequest.{SourceRequest}
use Rattle.radio_events.specs.declared.event.ListenRequest.{ListenRequest}
use Rattle.radio_events.specs.declared.reply.Reply.TheVariants.{Deny}
use Rattle.radio_events.specs.Events.{client_in}
use Rattle.radio_parts_station.specs.declared.standing.Standing.{Standing}
use Rattle.radio_parts_station.specs.declared.standing.Standing.TheVariants.{Unknown, Undecided, Feeds, Sits, Answered, Finished}
use Rattle.radio_events.specs.declared.command.Command.{Command}
use Rattle.radio_parts.specs.Allowed.{IsCommanded}
use Rattle.radio_parts_station.specs.Facts.{rows_to_feed, rows_to_raise, rows_to_listen}
use Rattle.radio_events.specs.declared.text.ReplyText.{ReplyText}
use Rattle.radio_parts.specs.Pages.{IsShownBy}
use Rattle.radio_core.specs.Finishes.{Finishes}
use Rattle.radio_parts_station.specs.Clients.{Client, client_of}
use Rattle.radio_parts.specs.Step.{reply_to, world_after}
use Rattle.radio_parts_station.specs.World.{World, standing_of, has_relay}

-- all that an event can do to the standing of the client or relay of this number; a rule finishes it only for its cause
pub data ClientStep (w : World) (Cause : Rule → Type 0) (event : Event) (id : ℕ) : Standing → Standing → Type 0 where
  -- its standing is as before
  Stays : (standing : Standing) → ClientStep w Cause event id standing standing
  -- it arrives from an address that passes the address lists, with a number that was not given before
  Arrives : (peer : Peer) → event ≡ Arrive peer → passes w.station.lists peer ≡ true → w.station.last_id < id
      → ClientStep w Cause event id Unknown (Undecided peer)
  -- what it asks for is denied
  IsAnswered : (peer : Peer) (rule : Rule) → client_in event ≡ Some id → reply_to w event ≡ Deny rule → ClientStep w Cause event id (Undecided peer) Answered
  -- it gives a command, and the policy allows it
  IsObeyed : (peer : Peer) (command : Command) → client_in event ≡ Some id → IsCommanded w event command
      → ClientStep w Cause event id (Undecided peer) Answered
  -- it asks to be shown something of the station, and the policy allows it
  IsShown : (peer : Peer) (text : ReplyText) → client_in event ≡ Some id → IsShownBy w event text
      → ClientStep w Cause event id (Undecided peer) Answered
  -- it asks to feed a mount, and the policy allows it
  BeginsToFeed : (peer : Peer) (asked : SourceRequest) → event ≡ Source asked → asked.id ≡ id → verdict_in (rows_to_feed w.station asked) ≡ Allow
      → ClientStep w Cause event id (Undecided peer) (Feeds asked.mount)
  -- it asks to hear a mount, and the policy allows it
  SitsDown : (peer : Peer) (asked : ListenRequest) → event ≡ Listen asked → asked.id ≡ id → verdict_in (rows_to_listen w asked) ≡ Allow
      → ClientStep w Cause event id (Undecided peer) Sits
  -- its data have ended
  StopsFeeding : (mount : List ℕ) → event ≡ SourceEnd id → has_relay w id ≡ false → ClientStep w Cause event id (Feeds mount) Answered
  -- it leaves
  Leaves : (standing : Standing) → event ≡ Leave id → has_relay w id ≡ false → ClientStep w Cause event id standing Unknown
  -- a relay comes up, with a number that was not given before, and the policy allows it
  ComesUp : (mount : List ℕ) (shown : Shown) → event ≡ RelayUp mount shown → w.station.last_id < id
      → verdict_in (rows_to_raise w.station mount shown) ≡ Allow → ClientStep w Cause event id Unknown (Feeds mount)
  -- it goes down
  GoesDown : (standing : Standing) → event ≡ RelayDown id → has_relay w id ≡ true → ClientStep w Cause event id standing Unknown
  -- it is finished by a rule
  IsFinished : (standing : Standing) (rule : Rule) → Cause rule → ClientStep w Cause event id standing (Finished rule)

-- rule: Client states; Relay ended before
abbrev pub ClientsStep : World → Event → Type 0
ClientsStep w event = (id : ℕ) → ClientStep w (Finishes w event id) event id (standing_of w id) (standing_of (world_after w event) id)

-- who is there before an event and after it came from the same address, at the same moment
-- rule: Client states
abbrev pub ArrivalsStay : World → Event → Type 0
ArrivalsStay w event = (id : ℕ) (client later : Client) → client_of w.station.clients id ≡ Some client
    → client_of (world_after w event).station.clients id ≡ Some later → (later.peer ≡ client.peer) × (later.arrived ≡ client.arrived)
