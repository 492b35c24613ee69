-- Listeners whom a move carries along: each has its turn, in the order of their numbers, and finds things as the earlier turns left them.
use Rattle.std.specs.Prelude.{ℕ, ◌+◌, Bool, not, ◌&&◌, if◌then◌else◌, List, [], ◌∷◌, Option, Some, None, map, filter, nat_lt}
use Rattle.std.specs.Ordering.{nat_cmp}
use Rattle.std.specs.Str.{bytes_eq}
use Rattle.radio_creds.specs.Credentials.{Credentials}
use Rattle.radio_tables.specs.Past.{is_past}
use Rattle.radio_seats_rows.specs.declared.seat.Seat.{Seat}
use Rattle.radio_seats_rows.specs.declared.seat.Listener.{Listener}
use Rattle.radio_seats_rows.specs.Seats.{seat_of, with_move, with_end, without_listener}
use Rattle.radio_fallback.specs.declared.moves.Carried.{Carried}
use Rattle.radio_fallback.specs.declared.moves.Move.{Move}
use Rattle.radio_fallback.specs.declared.moves.Move.TheVariants.{Ended, Up, To}
use Rattle.radio_fallback.specs.declared.moves.MoveEffect.{MoveEffect}
use Rattle.radio_fallback.specs.declared.moves.MoveEffect.TheVariants.{Stays, GoesTo, IsOut}
use Rattle.radio_fallback.specs.declared.walking.Landing.{Landing}
use Rattle.radio_fallback.specs.declared.walking.Landing.TheVariants.{Lands, Stops}
use Rattle.radio_fallback.specs.Walk.{Sight, landing, landing_here}

-- whom a move concerns, by where it sits and its home: those who sit at the mount, and where the mount came up, those whose home it is
-- and who sit elsewhere
-- rule: Called home
abbrev pub concerns : Move → List ℕ → List ℕ → Bool
concerns (Ended mount) at home = bytes_eq at mount
concerns (Up mount) at home = bytes_eq home mount && not (bytes_eq at mount)
concerns (To mount destination) at home = bytes_eq at mount

-- whose session has ended goes where its walk lands, or is out by the rule that stops it
abbrev pub walks_on : Landing → MoveEffect
walks_on (Lands mount) = GoesTo mount
walks_on (Stops rule) = IsOut rule

-- who is only asked to a mount stays where it is if it may not sit there
abbrev pub is_asked : Landing → MoveEffect
is_asked (Lands mount) = GoesTo mount
is_asked (Stops rule) = Stays

-- what the move has in store for one who sent this pair
abbrev pub turn_by : Sight → List Listener → Option Credentials → Move → MoveEffect
turn_by sight others pair (Ended mount) = walks_on (landing sight others pair mount)
turn_by sight others pair (Up mount) = is_asked (landing_here sight others pair mount)
turn_by sight others pair (To mount destination) = is_asked (landing_here sight others pair destination)

abbrev pub turn_in : Sight → List Listener → Move → Option Seat → MoveEffect
turn_in sight others move None = Stays
turn_in sight others move (Some seat) = (if concerns move seat.mount seat.home then turn_by sight others seat.pair move else Stays)

-- its turn in this state; its own seat does not count against it
-- rule: Move clients
abbrev pub turn_of : Sight → Move → List Listener → ℕ → MoveEffect
turn_of sight move seats id = turn_in sight (without_listener seats id) move (seat_of seats id)

-- the listeners at some point of a carry, and how many it has shifted and finished by then
pub record Carry : Type 0 where
  pub seats : List Listener
  pub counts : Carried

-- what its turn changes: it goes on at the end of that mount's stream, or loses its seat
-- rule: Turns of a move
abbrev pub carry_after_move : Sight → ℕ → Carry → MoveEffect → Carry
carry_after_move sight id carry Stays = carry
carry_after_move sight id carry (GoesTo mount) = record {
  seats = with_move carry.seats id mount (sight.stream_end mount).session (sight.stream_end mount).place;
  counts = record carry.counts { moved = carry.counts.moved + 1 };
}
carry_after_move sight id carry (IsOut rule) = record {
  seats = with_end carry.seats id rule;
  counts = record carry.counts { ended = carry.counts.ended + 1 };
}

-- one turn after the other
-- rule: Turns of a move
abbrev pub turns : Sight → Move → List ℕ → Carry → Carry
turns sight move [] carry = carry
turns sight move (id ∷ ids) carry = turns sight move ids (carry_after_move sight id carry (turn_of sight move carry.seats id))

abbrev pub numbers_of : List Listener → List ℕ
numbers_of seats = map (λ listener. listener.id) seats

-- nobody has had its turn
abbrev pub at_first : List Listener → Carry
at_first seats = record { seats = seats; counts = record { moved = 0; ended = 0 } }

-- everybody has had its turn
-- rule: Turns of a move
abbrev pub carried : Sight → Move → List Listener → Carry
carried sight move seats = turns sight move (numbers_of seats) (at_first seats)

-- those before it have had their turns
-- rule: Turns of a move
abbrev pub at_his_turn : Sight → Move → List Listener → ℕ → List Listener
at_his_turn sight move seats id = (turns sight move (filter (λ other. nat_lt other id) (numbers_of seats)) (at_first seats)).seats

-- whose turn is still to come, where that of the last one is over
abbrev pub numbers_past : Option ℕ → List Listener → List ℕ
numbers_past last seats = filter (is_past nat_cmp last) (numbers_of seats)
