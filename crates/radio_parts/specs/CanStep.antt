-- What a step asks of the state. For a draw, the client is known as a listener, and the data after its place are not forgotten.
use Rattle.std.specs.Prelude.{◌≡◌, ℕ, Some}
use Rattle.radio_events.specs.declared.event.Event.{Event}
use Rattle.radio_events.specs.declared.event.Event.TheVariants.{Arrive, Source, Push, SourceEnd, Title, Listen, Draw, Command, Leave}
use Rattle.radio_events.specs.declared.event.Event.TheVariants.{RelayUp, RelayDown, Clock}
use Rattle.radio_parts_station.specs.World.{World, standing_of}
use Rattle.radio_parts_station.specs.declared.standing.Standing.TheVariants.{Sits}
use Rattle.radio_parts_mount.specs.Steps.{IsKept}
use Rattle.radio_parts_mount.specs.Sessions.{session_of}
use Rattle.radio_seats_rows.specs.declared.seat.Seat.{Seat}
use Rattle.radio_seats_rows.specs.Seats.{seat_of}

-- the one of this number may draw, if it has a seat
pub record MayDraw (w : World) (id : ℕ) : Type 0 where
  pub sits : (seat : Seat) → seat_of w.seats id ≡ Some seat → standing_of w id ≡ Sits
  pub kept : (seat : Seat) → seat_of w.seats id ≡ Some seat → IsKept (session_of w.station.live seat.mount) seat.place

abbrev pub CanStep : World → Event → Type 0
CanStep w (Arrive peer) = Unit {0}
CanStep w (Source asked) = Unit {0}
CanStep w (Push id block) = Unit {0}
CanStep w (SourceEnd id) = Unit {0}
CanStep w (Title id text) = Unit {0}
CanStep w (Listen asked) = Unit {0}
CanStep w (Draw id room) = MayDraw w id
CanStep w (Command asked) = Unit {0}
CanStep w (Leave id) = Unit {0}
CanStep w (RelayUp mount shown) = Unit {0}
CanStep w (RelayDown id) = Unit {0}
CanStep w (Clock ms) = Unit {0}
