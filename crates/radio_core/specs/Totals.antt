-- How many came and left by an event, and how many are there.
use Rattle.std.specs.Prelude.{◌≡◌, ℕ, ◌+◌, if◌then◌else◌, Bool, not, length, filter}
use Rattle.std.specs.Option.{is_some}
use Rattle.radio_seats_rows.specs.declared.seat.Listener.{Listener}
use Rattle.radio_seats_rows.specs.Seats.{listener_of, seat_held}
use Rattle.radio_events.specs.declared.event.Event.{Event}
use Rattle.radio_events.specs.declared.event.Event.TheVariants.{Arrive, Leave, RelayUp, RelayDown}
use Rattle.radio_events.specs.declared.reply.Reply.{Reply}
use Rattle.radio_events.specs.declared.reply.Reply.TheVariants.{Arrived, Seated, Noted}
use Rattle.radio_parts.specs.Step.{reply_to, world_after}
use Rattle.radio_parts_station.specs.World.{World}

-- a number was given
abbrev pub numbers_given : Reply → ℕ
numbers_given (Arrived id) = 1
numbers_given reply = 0

-- to a client
-- rule: History adds up
abbrev pub arrivals : Reply → Event → ℕ
arrivals (Arrived id) (Arrive peer) = 1
arrivals reply event = 0

-- or to a relay
-- rule: History adds up
abbrev pub relays_up : Reply → Event → ℕ
relays_up (Arrived id) (RelayUp mount shown) = 1
relays_up reply event = 0

-- a relay has gone down; where none of that number was there, the reply is another
-- rule: History adds up
abbrev pub relays_down : Reply → Event → ℕ
relays_down Noted (RelayDown id) = 1
relays_down reply event = 0

-- a client has left; where none of that number was there, the reply is another
-- rule: History adds up
abbrev pub departures : Reply → Event → ℕ
departures Noted (Leave id) = 1
departures reply event = 0

-- a listener was given a seat
abbrev pub seatings : Reply → ℕ
seatings (Seated interval head) = 1
seatings reply = 0

-- the client who has left was a listener, who sat or had lost its seat before
abbrev pub listeners_leaving : World → Reply → Event → ℕ
listeners_leaving w Noted (Leave id) = if is_some (listener_of w.seats id) then 1 else 0
listeners_leaving w reply event = 0

abbrev pub has_seat : Listener → Bool
has_seat listener = is_some (seat_held listener.seating)

-- how many clients are there
abbrev pub clients_there : World → ℕ
clients_there w = length w.station.clients

-- how many relays are there
abbrev pub relays_there : World → ℕ
relays_there w = length w.station.relays

-- how many listeners sit, and how many are there who have lost their seats
abbrev pub seats_there : World → ℕ
seats_there w = length (filter has_seat w.seats)

abbrev pub seats_lost : World → ℕ
seats_lost w = length (filter (λ listener. not (has_seat listener)) w.seats)

-- who is there after an event was there before it or came by it, and did not leave by it
pub record AddsUp (w : World) (event : Event) : Type 0 where
  -- numbers are given one after another, to clients and to relays
  pub numbers : (world_after w event).station.last_id ≡ w.station.last_id + numbers_given (reply_to w event)
  pub clients : clients_there (world_after w event) + departures (reply_to w event) event ≡ clients_there w + arrivals (reply_to w event) event
  pub relays : relays_there (world_after w event) + relays_down (reply_to w event) event ≡ relays_there w + relays_up (reply_to w event) event
  pub seats : seats_there (world_after w event) + seats_lost (world_after w event) + listeners_leaving w (reply_to w event) event
      ≡ seats_there w + seats_lost w + seatings (reply_to w event)
