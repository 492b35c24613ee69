-- How far behind listeners are.
use Rattle.std.specs.Prelude.{◌≡◌, ℕ, ◌-◌, ◌≤◌, Some}
use Rattle.radio_seats_rows.specs.declared.seat.Seat.{Seat}
use Rattle.radio_seats_rows.specs.Seats.{seat_of}
use Rattle.radio_parts_mount.specs.Sessions.{Session, session_of}
use Rattle.radio_parts_mount.specs.Stream.{WholeStream, end_of}
use Rattle.radio_parts_station.specs.World.{World}

-- it holds of each seat's place in the stream of its mount's session
abbrev pub EachSeat : (WholeStream → ℕ → Type 0) → World → Type 0
EachSeat P w = (id : ℕ) (seat : Seat) (session : Session) → seat_of w.seats id ≡ Some seat → session_of w.station.live seat.mount ≡ Some session
    → P session.stream seat.place

-- no seat is further behind the end of its session's stream than a queue is long
-- rule: Lagged
abbrev pub NobodyLags : World → Type 0
NobodyLags w = EachSeat (λ stream place. end_of stream - place ≤ w.station.settings.limits.queue_size) w
