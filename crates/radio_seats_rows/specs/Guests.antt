-- A seat and its guest: what stays as it is wherever it sits.
use Rattle.std.specs.Prelude.{ℕ, Bool, ◌&&◌, min, List, fold}
use Rattle.std.specs.Str.{bytes_eq}
use Rattle.radio_seats_rows.specs.declared.seat.Guest.{Guest}
use Rattle.radio_seats_rows.specs.declared.seat.Seat.{Seat}
use Rattle.radio_seats_rows.specs.declared.seat.Seating.{Seating}
use Rattle.radio_seats_rows.specs.declared.seat.Seating.TheVariants.{Sits, Finished}
use Rattle.radio_seats_rows.specs.declared.seat.Listener.{Listener}

-- the guest's seat at this mount
abbrev pub seat_of_guest : ℕ → List ℕ → ℕ → Guest → Seat
seat_of_guest place mount session guest = record {
  place = place;
  mount = mount;
  session = session;
  home = guest.home;
  peer = guest.peer;
  pair = guest.pair;
  interval = guest.interval;
  since = guest.since;
}

-- who has the seat
abbrev pub guest_in : Seat → Guest
guest_in seat = record { home = seat.home; peer = seat.peer; pair = seat.pair; interval = seat.interval; since = seat.since }

-- a test of a guest holds of the one who has the seat
abbrev pub passes_in : (Guest → Bool) → Seat → Bool
passes_in p seat = p (guest_in seat)

-- and it is a seat at the mount
abbrev pub passes_at : List ℕ → (Guest → Bool) → Seat → Bool
passes_at mount p seat = bytes_eq seat.mount mount && passes_in p seat

-- the moment of the guest who has the seat, or the other where it is lost
abbrev pub moment_in : (Guest → ℕ) → ℕ → Seating → ℕ
moment_in moment other (Sits seat) = moment (guest_in seat)
moment_in moment other (Finished rule mount) = other

-- the first of these moments of those who sit, or the last one where nobody sits
abbrev pub first_moment : (Guest → ℕ) → ℕ → List Listener → ℕ
first_moment moment last seats = fold (λ first listener. min first (moment_in moment last listener.seating)) last seats
