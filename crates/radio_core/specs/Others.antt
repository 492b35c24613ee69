-- What an event does to its own client, and to others.
use Rattle.std.specs.Prelude.{◌≡◌, ◌⊎◌, ℕ, ◌<◌, Option, Some, None}
use Rattle.radio_policy.specs.declared.rule.Rule.{Rule}
use Rattle.std.specs.Prelude.{List}
use Rattle.radio_values.specs.declared.field.Shown.{Shown}
use Rattle.radio_events.specs.declared.reply.StreamHead.{StreamHead}
use Rattle.radio_events.specs.declared.event.Event.{Event}
use Rattle.radio_events.specs.declared.event.Event.TheVariants.{Arrive, Source, Listen, Leave, RelayUp}
use Rattle.radio_events.specs.declared.event.SourceRequest.{SourceRequest}
use Rattle.radio_events.specs.declared.event.ListenRequest.{ListenRequest}
use Rattle.radio_addr.specs.declared.peer.Peer.{Peer}
use Rattle.radio_events.specs.declared.reply.Reply.TheVariants.{Arrived, Feeding, Seated, Finished}
use Rattle.radio_parts_station.specs.declared.standing.Standing.TheVariants.{Unknown, Undecided, Feeds, Sits, Finished as HasFinished}
use Rattle.radio_seats_rows.specs.declared.seat.Seat.{Seat}
use Rattle.radio_seats_rows.specs.Seats.{seat_of}
use Rattle.radio_core.specs.Finishes.{Finishes}
use Rattle.radio_parts.specs.Step.{reply_to, world_after}
use Rattle.radio_parts.specs.Ways.{IsUndecided}
use Rattle.radio_events.specs.Events.{client_in}
use Rattle.radio_parts_station.specs.World.{World, standing_of}

-- another client's event leaves its standing as it is, unless the event finishes it, or it has only arrived by
-- it, or come up
abbrev pub StandsOn : World → Event → ℕ → Type 0
StandsOn w event id = (standing_of (world_after w event) id ≡ standing_of w id) ⊎
    ((rule : Rule) × Finishes w event id rule) ⊎
    (reply_to w event ≡ Arrived id)

-- rule: Other clients
abbrev pub OthersStandOn : World → Event → Type 0
OthersStandOn w event = (id : ℕ) → (client_in event ≡ Some id → ⊥) → StandsOn w event id

-- the event by which a number was given: a client has arrived, or a relay has come up
pub data HasCome (w : World) (id : ℕ) : Event → Type 0 where
  AsClient : (peer : Peer) → standing_of (world_after w (Arrive peer)) id ≡ Undecided peer → HasCome w id (Arrive peer)
  AsRelay : (mount : List ℕ) (shown : Shown) → standing_of (world_after w (RelayUp mount shown)) id ≡ Feeds mount → HasCome w id (RelayUp mount shown)

-- each reply fits its client, whose standing is then what the reply says
-- rule: Other clients
pub record RepliesFit (w : World) (event : Event) : Type 0 where
  pub arrived : (id : ℕ) → reply_to w event ≡ Arrived id → HasCome w id event × (w.station.last_id < id) × (standing_of w id ≡ Unknown)
  pub feeding : reply_to w event ≡ Feeding → (asked : SourceRequest) × (event ≡ Source asked) × IsUndecided w asked.id
      × (standing_of (world_after w event) asked.id ≡ Feeds asked.mount)
  pub seated : (interval : Option ℕ) (head : StreamHead) → reply_to w event ≡ Seated interval head
      → (asked : ListenRequest) × (event ≡ Listen asked) × IsUndecided w asked.id × (standing_of (world_after w event) asked.id ≡ Sits)
  pub finished : (rule : Rule) → reply_to w event ≡ Finished rule → (id : ℕ) × (client_in event ≡ Some id) × (standing_of w id ≡ HasFinished rule)

-- whoever has lost its seat by an event has left by it, or is finished by it
-- rule: Changes of seats
abbrev pub LosesNoSeatElse : World → Event → Type 0
LosesNoSeatElse w event = (id : ℕ) (seat : Seat) → seat_of w.seats id ≡ Some seat → seat_of (world_after w event).seats id ≡ None
    → (event ≡ Leave id) ⊎ ((rule : Rule) × Finishes w event id rule)
