-- What the table answers of a listener.
use Rattle.std.specs.Prelude.{Option, Some, None}
use Rattle.radio_seats.specs.declared.lent.LentSeat.{LentSeat}
use Rattle.radio_seats_rows.specs.declared.seat.Listener.{Listener}
use Rattle.radio_seats.specs.declared.lent.ListenerStanding.{ListenerStanding}
use Rattle.radio_seats.specs.declared.lent.ListenerStanding.TheVariants.{HasSeat, HasLost}
use Rattle.radio_seats_rows.specs.declared.seat.Seat.{Seat}
use Rattle.radio_seats_rows.specs.declared.seat.Seating.{Seating}
use Rattle.radio_seats_rows.specs.declared.seat.Seating.TheVariants.{Sits, Finished}
use Rattle.radio_seats_rows.specs.Guests.{seat_of_guest}

-- the seat that is lent
abbrev pub lent_seat : LentSeat → Seat
lent_seat seat = seat_of_guest seat.place seat.mount.now seat.session seat.guest.now

-- the standing of this listener
abbrev pub standing_by : Seating → ListenerStanding
standing_by (Sits seat) = HasSeat
standing_by (Finished rule mount) = HasLost rule

abbrev pub standing_in : Option Listener → Option ListenerStanding
standing_in None = None
standing_in (Some listener) = Some (standing_by listener.seating)
