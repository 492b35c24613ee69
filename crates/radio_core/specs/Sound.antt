-- What holds of every state of a run.
use Rattle.std.specs.Prelude.{◌≡◌, ℕ, ◌<◌, ◌≤◌, List, Some}
use Rattle.radio_seats_rows.specs.declared.seat.Seat.{Seat}
use Rattle.radio_parts_station.specs.declared.standing.Standing.TheVariants.{Unknown, Feeds, Sits}
use Rattle.radio_seats_rows.specs.Seats.{seat_of, AreByNumber}
use Rattle.radio_parts_mount.specs.Sessions.{Session, AreApart, session_of}
use Rattle.radio_parts_mount.specs.Stream.{AreRising, end_of}
use Rattle.radio_parts_station.specs.World.{World, standing_of}
use Rattle.radio_parts_station.specs.Waiting.{heard_at}

-- the listener sits in the session that its mount has, or waits there for one, and its place is within its stream
pub record IsSeatedIn (w : World) (seat : Seat) : Type 0 where
  pub session : Session
  pub is_heard : heard_at w.station seat.mount ≡ Some session
  pub his_session : session.number ≡ seat.session
  pub within : seat.place ≤ end_of session.stream

pub record IsSound (w : World) : Type 0 where
  -- nobody has a number that was not given yet
  pub numbered : (id : ℕ) → w.station.last_id < id → standing_of w id ≡ Unknown
  -- nor the number 0, which belongs to the empty session at a mount that nobody feeds
  pub from_one : standing_of w 0 ≡ Unknown
  -- each source feeds the session of its number, and each session is fed by the source of its number
  pub feeds : (id : ℕ) (mount : List ℕ) → standing_of w id ≡ Feeds mount
      → (session : Session) × (session_of w.station.live mount ≡ Some session) × (session.number ≡ id)
  pub fed : (mount : List ℕ) (session : Session) → session_of w.station.live mount ≡ Some session → standing_of w session.number ≡ Feeds mount
  -- no two sessions are of one mount
  pub apart : AreApart w.station.live
  -- blocks start one after another
  pub starts : (mount : List ℕ) (session : Session) → session_of w.station.live mount ≡ Some session → AreRising session.stream.starts (end_of session.stream)
  -- listeners are in the order of their numbers
  pub by_number : AreByNumber w.seats
  -- whoever has a seat sits, in the session that its mount has, or waits there for one
  pub sitting : (id : ℕ) (seat : Seat) → seat_of w.seats id ≡ Some seat → standing_of w id ≡ Sits
  pub seated : (id : ℕ) (seat : Seat) → seat_of w.seats id ≡ Some seat → IsSeatedIn w seat
