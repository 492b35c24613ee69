-- as many are told to have been moved to a mount as sit there more
use Rattle.std.proofs.Common.{◌≡◌, Bool, true, false, ℕ, suc, ◌+◌, Option, Some, None, List, [], ◌∷◌, length, refl, ap, sym, ◌∙◌, arith}
use Rattle.radio_fallback.proofs.Words.{if◌then◌else◌, bytes_eq, bytes_eq-Decides, Listener, Seat, Seating, Sits, Finished, is_listener, listener_of, seat_held, seat_in, seat_of, moved, moved_to, with_move}
use Rattle.radio_fallback.proofs.Words.{without_listener, is_seat_at, seats_at, count_at, To, MoveEffect, Stays, GoesTo, IsOut, Carry, concerns, turn_by, turn_in, turn_of, carry_after_move, turns, at_first, carried}
use Rattle.radio_fallback.proofs.Words.{numbers_of, Sight}
use Rattle.radio_fallback.proofs.Faring.{goes_there, never_out_there}

-- where one who sits elsewhere goes to a mount, one more sits there
module _ (mount : List ℕ) (session place id : ℕ) (seat : Seat) (away : bytes_eq seat.mount mount ≡ false) where
  his_place : (seating : Seating) → seat_held seating ≡ Some seat
      → (is_seat_at mount seating ≡ false) × (is_seat_at mount (moved_to mount session place seating) ≡ true)
  his_place (Sits own) e =
      let same : own ≡ seat = cc in
      (ap (λ (x : Seat). bytes_eq x.mount mount) same ∙ away, (bytes_eq-Decides mount mount).1 refl)
  his_place (Finished rule last) e = cc

  beside : (there : Bool) (x : Listener) (xs ys : List Listener) → length ys ≡ suc (length xs)
      → length (if there then x ∷ ys else ys) ≡ suc (length (if there then x ∷ xs else xs))
  beside true x xs ys e = ap suc e
  beside false x xs ys e = e

  one_more_by : (x : Listener) (xs : List Listener) (his : Bool) → is_listener id x ≡ his
      → (seat_of xs id ≡ Some seat → length (seats_at (with_move xs id mount session place) mount) ≡ suc (length (seats_at xs mount)))
      → seat_in (if his then Some x else listener_of xs id) ≡ Some seat
      → length (seats_at (if his then moved mount session place x ∷ xs else x ∷ with_move xs id mount session place) mount)
      ≡ suc (length (seats_at (x ∷ xs) mount))
  one_more_by x xs true is later has =
      let at = his_place x.seating has in
      let now = ap (λ (b : Bool). length (if b then moved mount session place x ∷ seats_at xs mount else seats_at xs mount)) at.1 in
      let before = ap (λ (b : Bool). suc (length (if b then x ∷ seats_at xs mount else seats_at xs mount))) at.0 in
      now ∙ sym before
  one_more_by x xs false is later has = beside (is_seat_at mount x.seating) x (seats_at xs mount) (seats_at (with_move xs id mount session place) mount) (later has)

  one_more : (xs : List Listener) → seat_of xs id ≡ Some seat
      → length (seats_at (with_move xs id mount session place) mount) ≡ suc (length (seats_at xs mount))
  one_more [] has = cc
  one_more (x ∷ xs) has = one_more_by x xs (is_listener id x) refl (one_more xs) has

module _ (sight : Sight) (from mount : List ℕ) (apart : bytes_eq from mount ≡ false) where
  -- who goes sat at the mount from which they are moved
  sat_there_by : (others : List Listener) (seat : Seat) (to : List ℕ) (b : Bool) → concerns (To from mount) seat.mount seat.home ≡ b
      → (if b then turn_by sight others seat.pair (To from mount) else Stays) ≡ GoesTo to → bytes_eq seat.mount from ≡ true
  sat_there_by others seat to true is e = is
  sat_there_by others seat to false is e = cc

  sat_there_in : (others : List Listener) (held : Option Seat) (to : List ℕ) → turn_in sight others (To from mount) held ≡ GoesTo to
      → (seat : Seat) × (held ≡ Some seat) × (bytes_eq seat.mount from ≡ true)
  sat_there_in others None to e = cc
  sat_there_in others (Some seat) to e = (seat, refl, sat_there_by others seat to (concerns (To from mount) seat.mount seat.home) refl e)

  abbrev IsCounted : ℕ → Carry → MoveEffect → Type 0
  IsCounted id carry turn = count_at (carry_after_move sight id carry turn).seats mount + carry.counts.moved
      ≡ count_at carry.seats mount + (carry_after_move sight id carry turn).counts.moved

  counted_by : (id : ℕ) (carry : Carry) (turn : MoveEffect) → turn_of sight (To from mount) carry.seats id ≡ turn → IsCounted id carry turn
  counted_by id carry Stays e = refl
  counted_by id carry (IsOut rule) e = absurd (never_out_there sight from mount carry.seats id rule e)
  counted_by id carry (GoesTo to) e =
      let sat = sat_there_in (without_listener carry.seats id) (seat_of carry.seats id) to e in
      let goes : mount ≡ to = goes_there sight from mount carry.seats id to e in
      let elsewhere : bytes_eq sat.0.mount mount ≡ false = ap (λ (m : List ℕ). bytes_eq m mount) ((bytes_eq-Decides sat.0.mount from).0 sat.2) ∙ apart in
      let end = sight.stream_end to in
      let here : count_at (with_move carry.seats id mount end.session end.place) mount ≡ suc (count_at carry.seats mount)
      = one_more mount end.session end.place id sat.0 elsewhere carry.seats sat.1 in
      let there : count_at (with_move carry.seats id to end.session end.place) mount ≡ count_at (with_move carry.seats id mount end.session end.place) mount
      = ap (λ (m : List ℕ). count_at (with_move carry.seats id m end.session end.place) mount) (sym goes) in
      omega (arith, here, there)

  turns_counted : (ids : List ℕ) (carry : Carry) → count_at (turns sight (To from mount) ids carry).seats mount + carry.counts.moved
      ≡ count_at carry.seats mount + (turns sight (To from mount) ids carry).counts.moved
  turns_counted [] carry = refl
  turns_counted (id ∷ ids) carry =
      let turn = turn_of sight (To from mount) carry.seats id in
      let first : IsCounted id carry (turn_of sight (To from mount) carry.seats id) = counted_by id carry (turn_of sight (To from mount) carry.seats id) refl in
      let others = turns_counted ids (carry_after_move sight id carry (turn_of sight (To from mount) carry.seats id)) in
      omega (arith, first, others)

  pub moved_as_counted : (seats : List Listener) → count_at seats mount + (carried sight (To from mount) seats).counts.moved
      ≡ count_at (carried sight (To from mount) seats).seats mount
  moved_as_counted seats = let all = turns_counted (numbers_of seats) (at_first seats) in omega (arith, all)
