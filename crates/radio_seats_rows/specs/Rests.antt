-- How many seats are left of which something holds.
use Rattle.std.specs.Prelude.{ℕ, Bool, List, length, filter}
use Rattle.radio_seats_rows.specs.declared.seat.Listener.{Listener}
use Rattle.radio_seats_rows.specs.declared.seat.Seat.{Seat}
use Rattle.radio_seats_rows.specs.Seats.{holds_of}

abbrev pub how_many : (Seat → Bool) → List Listener → ℕ
how_many p seats = length (filter (λ listener. holds_of p listener.seating) seats)
