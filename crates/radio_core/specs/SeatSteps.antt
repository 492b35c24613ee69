-- What an event does to the seat of one client, and what it hands to it.
use Rattle.std.specs.Prelude.{◌≡◌, ◌==◌, ℕ, ◌+◌, ◌≤◌, true, false, List, [], length, Option, Some, None}
use Rattle.radio_policy.specs.declared.rule.Rule.{Rule}
use Rattle.radio_policy.specs.declared.judgement.Verdict.TheVariants.{Allow}
use Rattle.radio_policy.specs.Verdicts.{verdict_in}
use Rattle.radio_addr.specs.declared.peer.Peer.{Peer}
use Rattle.radio_values.specs.declared.field.Shown.{Shown}
use Rattle.radio_settings_values.specs.Options.{options_for}
use Rattle.radio_seats_rows.specs.declared.seat.Seat.{Seat}
use Rattle.radio_seats_rows.specs.Seats.{seat_of}
use Rattle.radio_events.specs.declared.event.Event.{Event}
use Rattle.radio_events.specs.declared.event.Event.TheVariants.{Source, Listen, Draw, Leave, RelayUp}
use Rattle.radio_events.specs.declared.event.SourceRequest.{SourceRequest}
use Rattle.radio_events.specs.declared.event.ListenRequest.{ListenRequest}
use Rattle.radio_parts_station.specs.declared.standing.Standing.TheVariants.{Undecided}
use Rattle.radio_access.specs.Lists.{lets_in}
use Rattle.radio_fallback.specs.declared.walking.Landing.TheVariants.{Lands}
use Rattle.radio_events.specs.declared.command.Command.TheVariants.{MoveClients}
use Rattle.radio_parts.specs.Allowed.{IsCommanded}
use Rattle.radio_parts_station.specs.Facts.{rows_to_listen, walks_to}
use Rattle.radio_core.specs.Moves.{TakesTo, moved_into}
use Rattle.radio_core.specs.Finishes.{Finishes}
use Rattle.radio_core.specs.Handing.{handed_at}
use Rattle.radio_parts.specs.Listen.{first_seat}
use Rattle.radio_parts_mount.specs.Sessions.{Session, session_of}
use Rattle.radio_parts.specs.Step.{world_after}
use Rattle.radio_parts_mount.specs.Stream.{data_at, end_of}
use Rattle.radio_parts_station.specs.World.{World, standing_of}
use Rattle.radio_parts_station.specs.Waiting.{heard_at}

-- a source, or a relay, comes up on the mount by the event
pub data ComesUpOn : Event → List ℕ → Type 0 where
  ASource : (asked : SourceRequest) → ComesUpOn (Source asked) asked.mount
  ARelay : (mount : List ℕ) (shown : Shown) → ComesUpOn (RelayUp mount shown) mount

-- a listener goes from its seat to the mount for one of three causes. The session in which it sat is over
-- a session has come up on the mount that the listener asked for, and calls its listeners home
-- or a command moves the listeners of its mount there
pub data IsSent (w later : World) (event : Event) (seat : Seat) (mount : List ℕ) : Type 0 where
  HisSessionIsOver : session_of later.station.live seat.mount ≡ None → (seat.session == 0) ≡ false → IsSent w later event seat mount
  HeIsCalledHome : ComesUpOn event mount → seat.home ≡ mount → (options_for w.station.settings mount).listeners.fallback_override ≡ true
      → IsSent w later event seat mount
  IsCommandedThere : IsCommanded w event (MoveClients seat.mount mount) → IsSent w later event seat mount

-- all that an event can do to the seat of the client of this number; between the two seats are the bytes that the client gets.
-- a rule ends a seat only for its cause
pub data SeatStep (w : World) (Cause : Rule → Type 0) (event : Event) (id : ℕ) : Option Seat → List ℕ → Option Seat → Type 0 where
  -- it stays as it is, or it has none still
  Stays : (seat : Option Seat) → SeatStep w Cause event id seat [] seat
  -- it draws, and gets the data at its place in the session in which it sits
  IsHanded : (seat : Seat) (session : Session) (room : ℕ) → event ≡ Draw id room → heard_at w.station seat.mount ≡ Some session
      → session.number ≡ seat.session → seat.place + length (data_at session.stream seat.place room) ≤ end_of session.stream
      → SeatStep w Cause event id (Some seat) (data_at session.stream seat.place room)
      (Some (record seat { place = seat.place + length (data_at session.stream seat.place room) }))
  -- it asks for a mount, the policy allows it, and its walk lands at a mount that is live, or waits for a session
  SitsDown : (asked : ListenRequest) (peer : Peer) (session : Session) → event ≡ Listen asked → asked.id ≡ id → standing_of w id ≡ Undecided peer
      → walks_to w.station w.seats asked.mount asked.pair ≡ Lands session.mount → heard_at w.station session.mount ≡ Some session
      → verdict_in (rows_to_listen w asked) ≡ Allow
      → SeatStep w Cause event id None [] (Some (first_seat w.station asked peer session))
  -- a session begins at its mount, which waited for one: the listener draws it from its start
  IsGiven : (seat : Seat) (session : Session) → ComesUpOn event seat.mount → session_of w.station.live seat.mount ≡ None
      → session_of (world_after w event).station.live seat.mount ≡ Some session → session.stream.bytes ≡ [] → seat.session ≡ 0 → seat.place ≡ 0
      → (0 == session.number) ≡ false → SeatStep w Cause event id (Some seat) [] (Some (record seat { session = session.number }))
  -- a move by the event takes it, at its turn, to the end of a stream. The stream is of another mount, which is live and lets it in.
  -- or it is of the listener's own mount, which waits for a session from then on
  IsMoved : (seat : Seat) (session : Session) → TakesTo w event id session.mount → IsSent w (world_after w event) event seat session.mount
      → heard_at (world_after w event).station session.mount ≡ Some session → lets_in (world_after w event).station.lists session.mount seat.pair ≡ true
      → (seat.session == session.number) ≡ false → SeatStep w Cause event id (Some seat) [] (Some (moved_into session seat))
  -- it leaves
  Leaves : (seat : Seat) → event ≡ Leave id → SeatStep w Cause event id (Some seat) [] None
  -- it is finished by a rule
  IsEnded : (seat : Seat) (rule : Rule) → Cause rule → SeatStep w Cause event id (Some seat) [] None

-- rule: Changes of seats; Seat of a newcomer
abbrev pub SeatsStep : World → Event → Type 0
SeatsStep w event = (id : ℕ)
    → SeatStep w (Finishes w event id) event id (seat_of w.seats id) (handed_at w event id) (seat_of (world_after w event).seats id)
