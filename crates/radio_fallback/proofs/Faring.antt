-- how one listener fares in a carry, by its turn
use Rattle.std.proofs.Common.{◌≡◌, Bool, true, false, ℕ, ◌==◌, Option, Some, None, List, [], ◌∷◌, refl, ap, sym, ◌∙◌, arith}
use Rattle.radio_fallback.proofs.Words.{find, filter, nat_lt, if◌then◌else◌, eqb-true, nat_tests, Rule, Each, found_passes, Listener, Seat, Seating, Sits, Finished, is_listener, listener_of, seat_held, seat_in, seat_of}
use Rattle.radio_fallback.proofs.Words.{moved, loses, without_listener, AreByNumber, Move, Ended, Up, To, MoveEffect, Stays, GoesTo, IsOut, Landing, Lands, Stops, Sight, MaySit, found_at, stop_of, landing_at, landing}
use Rattle.radio_fallback.proofs.Words.{Carry, concerns, walks_on, is_asked, turn_by, turn_in, turn_of, carry_after_move, turns, numbers_of, at_first, carried, at_his_turn, fared, seat_at_end}
use Rattle.radio_tables.proofs.EachLaws.{Each_updated}
use Rattle.radio_fallback.proofs.FaresLemmas.{numbers_kept, turn_cases}
use Rattle.radio_fallback.proofs.HisTurn.{others_turn, by_his_turn}
use Rattle.radio_fallback.proofs.TurnLemmas.{is_shifted}

-- who is past its number is another
below_apart : (n id : ℕ) → nat_lt n id ≡ true → (n == id) ≡ false
below_apart n id below = grind (arith, nat_tests)

module _ (sight : Sight) (move : Move) (id : ℕ) where
  abbrev before : List ℕ → List ℕ
  before ns = filter (λ other. nat_lt other id) ns

  -- turns of lower numbers leave it as it is
  waits_at : (n : ℕ) (ns : List ℕ) (carry : Carry) (b : Bool) → nat_lt n id ≡ b
      → ((next : Carry) → listener_of (turns sight move (before ns) next).seats id ≡ listener_of next.seats id)
      → listener_of (turns sight move (if b then n ∷ before ns else before ns) carry).seats id ≡ listener_of carry.seats id
  waits_at n ns carry true e later =
      later (carry_after_move sight n carry (turn_of sight move carry.seats n))
      ∙ others_turn sight n id carry (turn_of sight move carry.seats n) (below_apart n id e)
  waits_at n ns carry false e later = later carry

  waits : (ns : List ℕ) (carry : Carry) → listener_of (turns sight move (before ns) carry).seats id ≡ listener_of carry.seats id
  waits [] carry = refl
  waits (n ∷ ns) carry = waits_at n ns carry (nat_lt n id) refl (waits ns)

-- at its turn it sits as it sat before the carry
pub sits_as_before : (sight : Sight) (move : Move) (seats : List Listener) (id : ℕ) → listener_of (at_his_turn sight move seats id) id ≡ listener_of seats id
sits_as_before sight move seats id = waits sight move id (numbers_of seats) (at_first seats)

-- how it fares: it stays, goes on at the end of a mount's stream where it may sit, or loses its seat where it sat
pub data Faring (sight : Sight) (move : Move) (seats : List Listener) (id : ℕ) : Type 0 where
  HasStayed : listener_of (carried sight move seats).seats id ≡ listener_of seats id
      → ((seat : Seat) → seat_of seats id ≡ Some seat → turn_of sight move (at_his_turn sight move seats id) id ≡ Stays) → Faring sight move seats id
  HasGone : (seat : Seat) (to : List ℕ) → turn_of sight move (at_his_turn sight move seats id) id ≡ GoesTo to → seat_of seats id ≡ Some seat
      → concerns move seat.mount seat.home ≡ true → MaySit sight (without_listener (at_his_turn sight move seats id) id) seat.pair to
      → listener_of (carried sight move seats).seats id ≡ Some (record { id = id; seating = Sits (seat_at_end sight to seat) }) → Faring sight move seats id
  HasLost : (seat : Seat) (rule : Rule) → turn_of sight move (at_his_turn sight move seats id) id ≡ IsOut rule → seat_of seats id ≡ Some seat
      → concerns move seat.mount seat.home ≡ true
      → listener_of (carried sight move seats).seats id ≡ Some (record { id = id; seating = Finished rule seat.mount }) → Faring sight move seats id

-- whom a turn takes its seat the move concerns
out_by : (sight : Sight) (others : List Listener) (move : Move) (seat : Seat) (rule : Rule) (b : Bool) → concerns move seat.mount seat.home ≡ b
    → (if b then turn_by sight others seat.pair move else Stays) ≡ IsOut rule → concerns move seat.mount seat.home ≡ true
out_by sight others move seat rule true c e = c
out_by sight others move seat rule false c e = cc

out_in : (sight : Sight) (others : List Listener) (move : Move) (held : Option Seat) (rule : Rule) → turn_in sight others move held ≡ IsOut rule
    → (seat : Seat) × (held ≡ Some seat) × (concerns move seat.mount seat.home ≡ true)
out_in sight others move None rule e = cc
out_in sight others move (Some seat) rule e = (seat, refl, out_by sight others move seat rule (concerns move seat.mount seat.home) refl e)

-- the listener who holds a seat
holds : (seating : Seating) (seat : Seat) → seat_held seating ≡ Some seat → seating ≡ Sits seat
holds (Sits held) seat e = let same : held ≡ seat = cc in ap (λ (x : Seat). Sits x) same
holds (Finished rule mount) seat e = cc

module _ (sight : Sight) (move : Move) (seats : List Listener) (rising : AreByNumber seats) (id : ℕ) where
  abbrev then_seats : List Listener
  then_seats = at_his_turn sight move seats id

  sat_then : seat_of then_seats id ≡ seat_of seats id
  sat_then = ap seat_in (sits_as_before sight move seats id)

  fares_by : (listener : Listener) → listener_of seats id ≡ Some listener → (turn : MoveEffect) → turn_of sight move then_seats id ≡ turn
      → Faring sight move seats id
  fares_by listener has Stays e =
      HasStayed (by_his_turn sight move seats id listener rising has ∙ ap (λ (t : MoveEffect). Some (fared sight t listener)) e ∙ sym has) (λ seat sits. e)
  fares_by listener has (GoesTo to) e =
      let shifted = is_shifted sight move then_seats id to e in
      let had : seat_of seats id ≡ Some shifted.seat = sym sat_then ∙ shifted.had in
      let held : seat_held listener.seating ≡ Some shifted.seat = ap seat_in (sym has) ∙ had in
      let sits : listener.seating ≡ Sits shifted.seat = holds listener.seating shifted.seat held in
      let his : listener.id ≡ id = eqb-true listener.id id (found_passes (is_listener id) seats listener has) in
      let is : listener ≡ record { id = id; seating = Sits shifted.seat } =
      ap (λ (n : ℕ). record listener { id = n }) his ∙ ap (λ (x : Seating). record { id = id; seating = x }) sits in
      HasGone shifted.seat to e had shifted.concerned shifted.fits
      (by_his_turn sight move seats id listener rising has ∙ ap (λ (t : MoveEffect). Some (fared sight t listener)) e
      ∙ ap (λ (x : Listener). Some (fared sight (GoesTo to) x)) is)
  fares_by listener has (IsOut rule) e =
      let out = out_in sight (without_listener then_seats id) move (seat_of then_seats id) rule e in
      let had : seat_of seats id ≡ Some out.0 = sym sat_then ∙ out.1 in
      let held : seat_held listener.seating ≡ Some out.0 = ap seat_in (sym has) ∙ had in
      let sits : listener.seating ≡ Sits out.0 = holds listener.seating out.0 held in
      let his : listener.id ≡ id = eqb-true listener.id id (found_passes (is_listener id) seats listener has) in
      let is : listener ≡ record { id = id; seating = Sits out.0 } =
      ap (λ (n : ℕ). record listener { id = n }) his ∙ ap (λ (x : Seating). record { id = id; seating = x }) sits in
      HasLost out.0 rule e had out.2
      (by_his_turn sight move seats id listener rising has ∙ ap (λ (t : MoveEffect). Some (fared sight t listener)) e
      ∙ ap (λ (x : Listener). Some (fared sight (IsOut rule) x)) is)

-- nobody comes into the table by a carry
none_at : (p : Listener → Bool) (q : ℕ → Bool) (x : Listener) (xs : List Listener) (b : Bool) → p x ≡ q x.id → p x ≡ b
    → (find p xs ≡ None → find q (numbers_of xs) ≡ None) → (if b then Some x else find p xs) ≡ None
    → (if q x.id then Some x.id else find q (numbers_of xs)) ≡ None
none_at p q x xs true same t later h = cc
none_at p q x xs false same t later h = rw (sym same ∙ t) (later h)

none_stays : (p : Listener → Bool) (q : ℕ → Bool) → ((x : Listener) → p x ≡ q x.id) → (xs : List Listener) → find p xs ≡ None → find q (numbers_of xs) ≡ None
none_stays p q same [] e = refl
none_stays p q same (x ∷ xs) e = none_at p q x xs (p x) (same x) refl (none_stays p q same xs) e

some_at : (p : Listener → Bool) (q : ℕ → Bool) (x : Listener) (xs : List Listener) (b : Bool) → p x ≡ q x.id → q x.id ≡ b
    → (find q (numbers_of xs) ≡ None → find p xs ≡ None) → (if b then Some x.id else find q (numbers_of xs)) ≡ None
    → (if p x then Some x else find p xs) ≡ None
some_at p q x xs true same t later h = cc
some_at p q x xs false same t later h = rw (same ∙ t) (later h)

some_stays : (p : Listener → Bool) (q : ℕ → Bool) → ((x : Listener) → p x ≡ q x.id) → (xs : List Listener) → find q (numbers_of xs) ≡ None → find p xs ≡ None
some_stays p q same [] e = refl
some_stays p q same (x ∷ xs) e = some_at p q x xs (q x.id) (same x) refl (some_stays p q same xs) e

pub nobody_new : (sight : Sight) (move : Move) (seats : List Listener) (id : ℕ) → listener_of seats id ≡ None
    → listener_of (carried sight move seats).seats id ≡ None
nobody_new sight move seats id none =
    some_stays (is_listener id) (λ n. n == id) (λ x. refl) (carried sight move seats).seats
    (ap (find (λ n. n == id)) (numbers_kept sight move seats) ∙ none_stays (is_listener id) (λ n. n == id) (λ x. refl) seats none)

pub fares : (sight : Sight) (move : Move) (seats : List Listener) → AreByNumber seats → (id : ℕ) → Faring sight move seats id
fares sight move seats rising id = by_found (listener_of seats id) refl where
  by_found : (found : Option Listener) → listener_of seats id ≡ found → Faring sight move seats id
  by_found None none =
      HasStayed (nobody_new sight move seats id none ∙ sym none)
      (λ seat sits. let nothing : seat_of seats id ≡ None = ap seat_in none in cc)
  by_found (Some listener) has = fares_by sight move seats rising id listener has (turn_of sight move (at_his_turn sight move seats id) id) refl

-- where a session ends, nobody stays who sits at its mount
walks_or_out : (l : Landing) → walks_on l ≡ Stays → ⊥
walks_or_out (Lands mount) e = cc
walks_or_out (Stops rule) e = cc

stays_away : (sight : Sight) (others : List Listener) (mount : List ℕ) (seat : Seat) → concerns (Ended mount) seat.mount seat.home ≡ true
    → turn_in sight others (Ended mount) (Some seat) ≡ Stays → ⊥
stays_away sight others mount seat there e =
    walks_or_out (landing sight others seat.pair mount) (sym (chosen (concerns (Ended mount) seat.mount seat.home) there) ∙ e) where
      chosen : (b : Bool) → b ≡ true → (if b then walks_on (landing sight others seat.pair mount) else Stays) ≡ walks_on (landing sight others seat.pair mount)
      chosen true t = refl
      chosen false t = cc

pub nobody_stays : (sight : Sight) (mount : List ℕ) (seats : List Listener) (id : ℕ) (seat : Seat) → seat_of seats id ≡ Some seat
    → concerns (Ended mount) seat.mount seat.home ≡ true → turn_of sight (Ended mount) (at_his_turn sight (Ended mount) seats id) id ≡ Stays → ⊥
nobody_stays sight mount seats id seat has there e =
    let others = without_listener (at_his_turn sight (Ended mount) seats id) id in
    let sits : seat_of (at_his_turn sight (Ended mount) seats id) id ≡ Some seat = ap seat_in (sits_as_before sight (Ended mount) seats id) ∙ has in
    stays_away sight others mount seat there (sym (ap (turn_in sight others (Ended mount)) sits) ∙ e)

-- where a mount has come up, nobody is out, and who goes comes home
asked_home : (mount : List ℕ) (stop : Option Rule) (to : List ℕ) → is_asked (landing_at mount stop) ≡ GoesTo to → mount ≡ to
asked_home mount None to e = cc
asked_home mount (Some rule) to e = cc

asked_never_out : (mount : List ℕ) (stop : Option Rule) (rule : Rule) → is_asked (landing_at mount stop) ≡ IsOut rule → ⊥
asked_never_out mount None rule e = cc
asked_never_out mount (Some by) rule e = cc

module _ (sight : Sight) (others : List Listener) (mount : List ℕ) where
  abbrev stop_there : Seat → Option Rule
  stop_there seat = stop_of (found_at sight others mount seat.pair)

  home_by : (seat : Seat) (to : List ℕ) (b : Bool) → (if b then is_asked (landing_at mount (stop_there seat)) else Stays) ≡ GoesTo to → mount ≡ to
  home_by seat to true e = asked_home mount (stop_there seat) to e
  home_by seat to false e = cc

  home_in : (held : Option Seat) (to : List ℕ) → turn_in sight others (Up mount) held ≡ GoesTo to → mount ≡ to
  home_in None to e = cc
  home_in (Some seat) to e = home_by seat to (concerns (Up mount) seat.mount seat.home) e

  never_out_by : (seat : Seat) (rule : Rule) (b : Bool) → (if b then is_asked (landing_at mount (stop_there seat)) else Stays) ≡ IsOut rule → ⊥
  never_out_by seat rule true e = asked_never_out mount (stop_there seat) rule e
  never_out_by seat rule false e = cc

  never_out_in : (held : Option Seat) (rule : Rule) → turn_in sight others (Up mount) held ≡ IsOut rule → ⊥
  never_out_in None rule e = cc
  never_out_in (Some seat) rule e = never_out_by seat rule (concerns (Up mount) seat.mount seat.home) e

  there_in : (from : List ℕ) (held : Option Seat) (to : List ℕ) → turn_in sight others (To from mount) held ≡ GoesTo to → mount ≡ to
  there_in from None to e = cc
  there_in from (Some seat) to e = home_by seat to (concerns (To from mount) seat.mount seat.home) e

  never_out_there_in : (from : List ℕ) (held : Option Seat) (rule : Rule) → turn_in sight others (To from mount) held ≡ IsOut rule → ⊥
  never_out_there_in from None rule e = cc
  never_out_there_in from (Some seat) rule e = never_out_by seat rule (concerns (To from mount) seat.mount seat.home) e

pub comes_home : (sight : Sight) (mount : List ℕ) (seats : List Listener) (id : ℕ) (to : List ℕ) → turn_of sight (Up mount) seats id ≡ GoesTo to → mount ≡ to
comes_home sight mount seats id to e = home_in sight (without_listener seats id) mount (seat_of seats id) to e

pub never_out : (sight : Sight) (mount : List ℕ) (seats : List Listener) (id : ℕ) (rule : Rule) → turn_of sight (Up mount) seats id ≡ IsOut rule → ⊥
never_out sight mount seats id rule e = never_out_in sight (without_listener seats id) mount (seat_of seats id) rule e

-- what holds of each listener before a carry holds of each after it, where it holds of whoever is moved and whoever is out
pub each_carried : (P : Listener → Type 0) → ((to : List ℕ) (session place : ℕ) (x : Listener) → P x → P (moved to session place x))
    → ((rule : Rule) (x : Listener) → P x → P (loses rule x)) → (sight : Sight) (move : Move) (seats : List Listener) → Each P seats
    → Each P (carried sight move seats).seats
each_carried P moves ends sight move seats all =
    turn_cases sight move (λ carry. Each P carry.seats)
    (λ carry id to each shifted. Each_updated P (is_listener id) (moved to (sight.stream_end to).session (sight.stream_end to).place)
    (moves to (sight.stream_end to).session (sight.stream_end to).place) carry.seats each)
    (λ carry id rule each. Each_updated P (is_listener id) (loses rule) (ends rule) carry.seats each)
    (numbers_of seats) (at_first seats) all

-- where listeners are moved to a mount, nobody is out, and who goes goes there
pub goes_there : (sight : Sight) (from mount : List ℕ) (seats : List Listener) (id : ℕ) (to : List ℕ) → turn_of sight (To from mount) seats id ≡ GoesTo to
    → mount ≡ to
goes_there sight from mount seats id to e = there_in sight (without_listener seats id) mount from (seat_of seats id) to e

pub never_out_there : (sight : Sight) (from mount : List ℕ) (seats : List Listener) (id : ℕ) (rule : Rule) → turn_of sight (To from mount) seats id ≡ IsOut rule
    → ⊥
never_out_there sight from mount seats id rule e = never_out_there_in sight (without_listener seats id) mount from (seat_of seats id) rule e
