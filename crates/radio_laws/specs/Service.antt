-- What the policy allows happens, and a listener with a seat gets the data at its place.
use Rattle.std.specs.Prelude.{◌≡◌, ℕ, ◌+◌, ◌-◌, ◌<◌, min, List, [], ◌∷◌, ◌++◌, true, false, length, Some, None}
use Rattle.radio_policy.specs.declared.rule.Rule.{Rule}
use Rattle.radio_policy.specs.Verdicts.{Allows}
use Rattle.radio_addr.specs.declared.peer.Peer.{Peer}
use Rattle.radio_events.specs.declared.event.Event.{Event}
use Rattle.radio_events.specs.declared.event.Event.TheVariants.{Arrive, Source, Push, SourceEnd, Title, Listen, Draw, RelayUp, RelayDown}
use Rattle.radio_events.specs.declared.event.SourceRequest.{SourceRequest}
use Rattle.radio_events.specs.declared.event.ListenRequest.{ListenRequest}
use Rattle.radio_events.specs.declared.reply.StreamHead.{StreamHead}
use Rattle.radio_events.specs.declared.reply.Reply.TheVariants.{Arrived, Feeding, Noted, Seated, Drawn, Finished, Stray}
use Rattle.radio_seats_rows.specs.declared.seat.Seat.{Seat}
use Rattle.radio_parts_station.specs.declared.standing.Standing.TheVariants.{Unknown, Undecided, Feeds, Sits, Answered}
use Rattle.radio_parts_station.specs.Facts.{rows_to_arrive, rows_to_feed, rows_to_raise, rows_to_push, rows_to_listen}
use Rattle.radio_parts_facts.specs.Streams.{interval_for}
use Rattle.radio_seats_rows.specs.Seats.{seat_of}
use Rattle.radio_parts_mount.specs.Sessions.{Session, session_of}
use Rattle.radio_parts.specs.Step.{reply_to, world_after}
use Rattle.radio_parts_mount.specs.Stream.{end_of, data_at}
use Rattle.radio_parts_station.specs.Clients.{client_of}
use Rattle.radio_parts_station.specs.declared.clients.ClientState.TheVariants.{Undecided as IsNew}
use Rattle.radio_parts_station.specs.World.{World, standing_of, has_relay}
use Rattle.radio_values.specs.declared.field.Shown.{Shown}
use Rattle.radio_laws.specs.Walks.{ComesBy}
use Rattle.radio_parts_station.specs.Waiting.{heard_at}

-- A listener was seated in the session of a mount of its walk, or at a mount that waits for one. It got the session's head.
pub record IsSeatedByWalk (w : World) (asked : ListenRequest) : Type 0 where
  pub session : Session
  pub steps : ℕ
  pub not_too_far : steps < 10
  pub on_his_way : ComesBy w asked.mount steps session.mount
  pub is_heard : heard_at w.station session.mount ≡ Some session
  pub head : StreamHead
  pub is_shown : reply_to w (Listen asked) ≡ Seated (interval_for w.station asked.mount asked.wants_metadata) head
  pub shows : head.shown ≡ session.shown
  pub sits : standing_of (world_after w (Listen asked)) asked.id ≡ Sits

-- a listener got the data at its place in its mount's stream, as much as is there and as fits, and the stream's title.
-- Its place is after the data
-- rule: Draws
pub record DrawsData (w : World) (id room : ℕ) : Type 0 where
  pub seat : Seat
  pub has_the_seat : seat_of w.seats id ≡ Some seat
  pub session : Session
  pub is_heard : heard_at w.station seat.mount ≡ Some session
  pub is_handed : reply_to w (Draw id room) ≡ Drawn (data_at session.stream seat.place room) session.title
  pub all_there : length (data_at session.stream seat.place room) ≡ min room (end_of session.stream - seat.place)
  pub goes_on : seat_of (world_after w (Draw id room)).seats id ≡ Some (record seat { place = seat.place + min room (end_of session.stream - seat.place) })

-- rule: Allowed actions
pub record Serves (w : World) : Type 0 where
  -- a client arrives, and is there from now on
  pub admits : (peer : Peer) → Allows (rows_to_arrive w.station peer) → (reply_to w (Arrive peer) ≡ Arrived (w.station.last_id + 1))
      × (client_of (world_after w (Arrive peer)).station.clients (w.station.last_id + 1)
      ≡ Some (record { id = w.station.last_id + 1; peer = peer; arrived = w.station.time; state = IsNew }))
      × (standing_of (world_after w (Arrive peer)) (w.station.last_id + 1) ≡ Undecided peer)
  pub begins : (asked : SourceRequest) (peer : Peer) → standing_of w asked.id ≡ Undecided peer → Allows (rows_to_feed w.station asked)
      → (reply_to w (Source asked) ≡ Feeding) × (standing_of (world_after w (Source asked)) asked.id ≡ Feeds asked.mount)
  -- a relay comes up with the next number, and feeds the mount
  pub raises : (mount : List ℕ) (shown : Shown) → Allows (rows_to_raise w.station mount shown)
      → (reply_to w (RelayUp mount shown) ≡ Arrived (w.station.last_id + 1))
      × (standing_of (world_after w (RelayUp mount shown)) (w.station.last_id + 1) ≡ Feeds mount)
  -- a block is noted at the end of the stream, and as its last one from now on
  pub takes_in : (id : ℕ) (mount block : List ℕ) (session : Session) → standing_of w id ≡ Feeds mount → session_of w.station.live mount ≡ Some session
      → Allows (rows_to_push w.station mount block) → (reply_to w (Push id block) ≡ Noted)
      × (session_of (world_after w (Push id block)).station.live mount ≡ Some (record session {
        stream = record { bytes = session.stream.bytes ++ block; starts = session.stream.starts ++ length session.stream.bytes ∷ [] };
        last_block = w.station.time;
      }))
  -- a title is that of the session from now on
  pub titles : (id : ℕ) (mount text : List ℕ) (session : Session) → standing_of w id ≡ Feeds mount → session_of w.station.live mount ≡ Some session
      → (reply_to w (Title id text) ≡ Noted)
      × (session_of (world_after w (Title id text)).station.live mount ≡ Some (record session { title = Some text }))
  -- the end of the data ends the session, and its source has had its answer
  pub ends : (id : ℕ) (mount : List ℕ) → standing_of w id ≡ Feeds mount → has_relay w id ≡ false → (reply_to w (SourceEnd id) ≡ Noted)
      × (session_of (world_after w (SourceEnd id)).station.live mount ≡ None) × (standing_of (world_after w (SourceEnd id)) id ≡ Answered)
  -- a relay that goes down ends it, and is gone
  pub goes_down : (id : ℕ) (mount : List ℕ) → standing_of w id ≡ Feeds mount → has_relay w id ≡ true → (reply_to w (RelayDown id) ≡ Noted)
      × (session_of (world_after w (RelayDown id)).station.live mount ≡ None) × (standing_of (world_after w (RelayDown id)) id ≡ Unknown)
  pub seats : (asked : ListenRequest) (peer : Peer) → standing_of w asked.id ≡ Undecided peer → Allows (rows_to_listen w asked)
      → IsSeatedByWalk w asked
  pub hands_out : (id room : ℕ) → standing_of w id ≡ Sits → DrawsData w id room

-- what is out of place changes nothing, nor does an event of a client that learns that it was
-- finished
pub record ChangesNothing (w : World) (event : Event) : Type 0 where
  pub stray : reply_to w event ≡ Stray → world_after w event ≡ w
  pub finished : (rule : Rule) → reply_to w event ≡ Finished rule → world_after w event ≡ w
