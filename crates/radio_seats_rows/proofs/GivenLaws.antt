-- who sits where, and in which session, when all at a mount hear a session that has begun there
use Rattle.std.proofs.Common.{◌≡◌, Bool, true, false, ℕ, Option, Some, None, List, [], ◌∷◌, length, refl, ap, ◌∙◌, arith}
use Rattle.std.specs.Prelude.{map, if◌then◌else◌}
use Rattle.std.specs.Option.{option_map}
use Rattle.std.specs.Str.{bytes_eq}
use Rattle.radio_tables.proofs.FindLaws.{find_mapped}
use Rattle.radio_seats_rows.specs.declared.seat.Listener.{Listener}
use Rattle.radio_seats_rows.specs.declared.seat.Seat.{Seat}
use Rattle.radio_seats_rows.specs.declared.seat.Seating.{Seating}
use Rattle.radio_seats_rows.specs.declared.seat.Seating.TheVariants.{Sits, Finished}
use Rattle.radio_seats_rows.specs.Seats.{is_listener, listener_of, seat_held, seat_in, seat_of, hears_session, in_session_at, with_session_at}
use Rattle.radio_seats_rows.specs.Seats.{is_seat_at, seats_at, count_at, is_user_at, sits_there}

-- the seat of one who hears the session, if it sits at the mount
abbrev pub seat_hearing : List ℕ → ℕ → Seat → Seat
seat_hearing mount session seat = record seat { session = (if bytes_eq seat.mount mount then session else seat.session) }

module _ (mount : List ℕ) (session : ℕ) where
  pub listener_hearing : (seats : List Listener) (id : ℕ)
      → listener_of (with_session_at seats mount session) id ≡ option_map (hears_session mount session) (listener_of seats id)
  listener_hearing seats id = find_mapped (is_listener id) (hears_session mount session) (λ x. refl) seats

  held_hearing : (seating : Seating) → seat_held (in_session_at mount session seating) ≡ option_map (seat_hearing mount session) (seat_held seating)
  held_hearing (Sits seat) = refl
  held_hearing (Finished rule last) = refl

  in_hearing : (listener : Option Listener)
      → seat_in (option_map (hears_session mount session) listener) ≡ option_map (seat_hearing mount session) (seat_in listener)
  in_hearing None = refl
  in_hearing (Some listener) = held_hearing listener.seating

  -- each has the seat that it had, in the new session where it is at the mount
  pub seat_of_hearing : (seats : List Listener) (id : ℕ)
      → seat_of (with_session_at seats mount session) id ≡ option_map (seat_hearing mount session) (seat_of seats id)
  seat_of_hearing seats id = ap seat_in (listener_hearing seats id) ∙ in_hearing (listener_of seats id)

  -- as many sit at each mount, and of the same users
  at_hearing : (other : List ℕ) (seating : Seating) → is_seat_at other (in_session_at mount session seating) ≡ is_seat_at other seating
  at_hearing other (Sits seat) = refl
  at_hearing other (Finished rule last) = refl

  count_if : (b c : Bool) (x y : Listener) (xs ys : List Listener) → b ≡ c → length xs ≡ length ys
      → length (if b then x ∷ xs else xs) ≡ length (if c then y ∷ ys else ys)
  count_if true true x y xs ys e rest = omega (arith, rest)
  count_if false false x y xs ys e rest = rest
  count_if true false x y xs ys e rest = cc
  count_if false true x y xs ys e rest = cc

  pub count_hearing : (other : List ℕ) (seats : List Listener) → count_at (with_session_at seats mount session) other ≡ count_at seats other
  count_hearing other [] = refl
  count_hearing other (listener ∷ seats) =
      count_if (is_seat_at other (in_session_at mount session listener.seating)) (is_seat_at other listener.seating) (hears_session mount session listener)
      listener (seats_at (with_session_at seats mount session) other) (seats_at seats other) (at_hearing other listener.seating) (count_hearing other seats)

  user_hearing : (other user : List ℕ) (seating : Seating) → is_user_at other user (in_session_at mount session seating) ≡ is_user_at other user seating
  user_hearing other user (Sits seat) = refl
  user_hearing other user (Finished rule last) = refl

  pub there_hearing : (other user : List ℕ) (seats : List Listener)
      → sits_there (with_session_at seats mount session) other user ≡ sits_there seats other user
  there_hearing other user [] = refl
  there_hearing other user (listener ∷ seats) = rw (user_hearing other user listener.seating, there_hearing other user seats) refl

  -- the listeners are the same, in the same order
  pub numbers_hearing : (seats : List Listener) → map (λ (l : Listener). l.id) (with_session_at seats mount session) ≡ map (λ (l : Listener). l.id) seats
  numbers_hearing [] = refl
  numbers_hearing (listener ∷ seats) = ap (λ ids. listener.id ∷ ids) (numbers_hearing seats)
