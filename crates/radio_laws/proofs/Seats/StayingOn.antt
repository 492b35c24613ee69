-- a listener at a mount goes on there when its session ends, if a listener may still sit there
use Rattle.std.proofs.Common.{◌≡◌, Bool, true, false, ℕ, ◌+◌, ◌<◌, ◌≤◌, ◌==◌, inl, inr, Option, Some, None, List, [], ◌∷◌, not, refl, ap, sym, ◌∙◌}
use Rattle.std.proofs.Common.{arith}
use Rattle.radio_laws.proofs.Words.{◌&&◌, filter, map, nat_lt, if◌then◌else◌, AllByRecursion, nat_cmp, Less, bytes_eq, nat_tests, bytes_eq-Decides, Credentials, Rule, Has, find_here, find_later, by_number, Listener}
use Rattle.radio_laws.proofs.Words.{Seat, Seating, Finished, is_listener, listener_of, seat_held, seat_in, seat_of, is_seat_at, count_at, has_user, is_user_at, sits_there, with_end, without_listener, AreByNumber, SitsAs}
use Rattle.radio_laws.proofs.Words.{one, held, passing_removed, beside_left, is_no_listener, order_left, same_order, Ended, Stays, GoesTo, IsOut, Lands, Sight, is_full, is_full_for, is_twice_for, sits_already, landing}
use Rattle.radio_laws.proofs.Words.{landing_here, next_mount, onward, walk, Carry, walks_on, turn_in, turn_of, carry_after_move, numbers_of, at_first, at_his_turn, IsWithinLimit, SitOnce, seat_at_end, sits_as_before}
use Rattle.radio_laws.proofs.Words.{turn_cases, shifted_there, shifted_himself, shifted_beside, out_himself, out_beside, count_shifted, count_out, IsShifted, landing_is}
use Rattle.std.proofs.lemmas.Map.Keys.{sorted_head, sorted_tail}
use Rattle.radio_seats_rows.specs.declared.seat.Seating.TheVariants.{Sits}
use Rattle.radio_fallback.proofs.CarryLemmas.{same_numbers}
use Rattle.radio_laws.proofs.Seats.LimitLemmas.{sent_as}
use Rattle.radio_laws.proofs.Denials.ListenerDenials.{some_one, seat_there}

-- a listener of the table is the one of its number
above_in : (k : ℕ) (him : Listener) (xs : List Listener) → AllByRecursion (λ m. nat_cmp k m ≡ Less) (map (λ (x : Listener). x.id) xs) → Has him xs
    → nat_cmp k him.id ≡ Less
above_in k him [] all has = absurd has
above_in k him (x ∷ xs) all (inl same) = ap (λ (y : Listener). nat_cmp k y.id) same ∙ all.0
above_in k him (x ∷ xs) all (inr later) = above_in k him xs all.1 later

less_apart : (k n : ℕ) → nat_cmp k n ≡ Less → (k == n) ≡ false
less_apart k n less = grind (arith, nat_tests)

itself : (n : ℕ) → (n == n) ≡ true
itself n = grind (arith, nat_tests)

found_own : (him : Listener) (xs : List Listener) → AreByNumber xs → Has him xs → listener_of xs him.id ≡ Some him
found_own him [] order has = absurd has
found_own him (x ∷ xs) order (inl same) =
    find_here (is_listener him.id) x xs (ap (λ (y : Listener). y.id == him.id) (sym same) ∙ itself him.id) ∙ ap (λ (y : Listener). Some y) (sym same)
found_own him (x ∷ xs) order (inr later) =
    let numbers = map (λ (y : Listener). y.id) xs in
    find_later (is_listener him.id) x xs (less_apart x.id him.id (above_in x.id him xs (sorted_head nat_cmp x.id numbers order) later))
    ∙ found_own him xs (sorted_tail nat_cmp x.id numbers order) later

-- a listener at the mount whose session has ended goes where its walk lands
pub walks_from : (sight : Sight) (others : List Listener) (mount : List ℕ) (seat : Seat) → seat.mount ≡ mount
    → turn_in sight others (Ended mount) (Some seat) ≡ walks_on (landing sight others seat.pair mount)
walks_from sight others mount seat there = chosen (bytes_eq seat.mount mount) ((bytes_eq-Decides seat.mount mount).1 there) where
  chosen : (b : Bool) → b ≡ true → (if b then walks_on (landing sight others seat.pair mount) else Stays) ≡ walks_on (landing sight others seat.pair mount)
  chosen true e = refl
  chosen false e = cc

-- its own seat is one of those at its mount
module _ (mount : List ℕ) where
  abbrev at_mount : Listener → Bool
  at_mount listener = is_seat_at mount listener.seating

  one_seat : (seating : Seating) (seat : Seat) → seat_held seating ≡ Some seat → bytes_eq seat.mount mount ≡ true → one (is_seat_at mount seating) ≡ 1
  one_seat (Sits held) seat e at = let same : held ≡ seat = cc in ap (λ (x : Seat). one (bytes_eq x.mount mount)) same ∙ ap one at
  one_seat (Finished rule last) seat e at = cc

  held_there : (listener : Option Listener) (seat : Seat) → seat_in listener ≡ Some seat → bytes_eq seat.mount mount ≡ true → held at_mount listener ≡ 1
  held_there None seat e at = cc
  held_there (Some listener) seat e at = one_seat listener.seating seat e at

  one_fewer : (seats : List Listener) (him : ℕ) (seat : Seat) → AreByNumber seats → seat_of seats him ≡ Some seat → bytes_eq seat.mount mount ≡ true
      → count_at (without_listener seats him) mount + 1 ≡ count_at seats mount
  one_fewer seats him seat order has at =
      let removed = passing_removed at_mount (λ (x : Listener). x.id) him seats order in
      let his = held_there (listener_of seats him) seat has at in
      omega (arith, removed, his)

-- the listeners are the same, and no new one sits at the mount
record NobodyCameTo (mount : List ℕ) (seats later : List Listener) : Type 0 where
  pub same : numbers_of later ≡ numbers_of seats
  pub no_more : count_at later mount ≤ count_at seats mount
  pub sat : (id : ℕ) (user : List ℕ) → SitsAs later id mount user → SitsAs seats id mount user

-- no new listener sits at a mount after the turns by which its session's end moves them
module _ (sight : Sight) (mount : List ℕ) (seats : List Listener) (order : AreByNumber seats) where
  at_most_one : (b : Bool) → one b ≤ 1
  at_most_one true = omega arith
  at_most_one false = omega arith

  none_shifts : (carry : Carry) (him : ℕ) (to : List ℕ) → NobodyCameTo mount seats carry.seats → IsShifted sight (Ended mount) carry.seats him to
      → NobodyCameTo mount seats (carry_after_move sight him carry (GoesTo to)).seats
  none_shifts carry him to none shifted = record {
    same = same_numbers sight him carry (GoesTo to) ∙ none.same;
    no_more =
        let rise : AreByNumber carry.seats = same_order seats carry.seats none.same order in
        let counted = count_shifted sight carry.seats him mount to rise in
        let fewer = one_fewer mount carry.seats him shifted.seat rise shifted.had shifted.concerned in
        let once = at_most_one (bytes_eq to mount) in
        let before = none.no_more in
        omega (arith, counted, fewer, once, before);
    sat = λ id user sits.
        by_number him id
        (λ his.
        let now : seat_of (shifted_there sight carry.seats him to) id ≡ Some (seat_at_end sight to shifted.seat)
        = ap (seat_of (shifted_there sight carry.seats him to)) (sym his) ∙ shifted_himself sight carry.seats him to shifted.seat shifted.had in
        let found : Some (seat_at_end sight to shifted.seat) ≡ Some sits.0 = sym now ∙ sits.1 in
        let is : seat_at_end sight to shifted.seat ≡ sits.0 = cc in
        none.sat id user (
          shifted.seat,
          ap (seat_of carry.seats) (sym his) ∙ shifted.had,
          (bytes_eq-Decides shifted.seat.mount mount).0 shifted.concerned,
          ap (λ (x : Seat). has_user user x.pair) is ∙ sits.3,
        ))
        (λ other. none.sat id user (sits.0, sym (shifted_beside sight carry.seats him to id other) ∙ sits.1, sits.2, sits.3));
  }

  none_ends : (carry : Carry) (him : ℕ) (rule : Rule) → NobodyCameTo mount seats carry.seats
      → NobodyCameTo mount seats (carry_after_move sight him carry (IsOut rule)).seats
  none_ends carry him rule none = record {
    same = same_numbers sight him carry (IsOut rule) ∙ none.same;
    no_more = let fewer = count_out sight carry.seats him mount rule in let before = none.no_more in omega (arith, fewer, before);
    sat = λ id user sits.
        by_number him id
        (λ his. let gone : seat_of (with_end carry.seats him rule) id ≡ None =
        ap (seat_of (with_end carry.seats him rule)) (sym his) ∙ out_himself carry.seats him rule in
        let held : seat_of (with_end carry.seats him rule) id ≡ Some sits.0 = sits.1 in cc)
        (λ other. none.sat id user (sits.0, sym (out_beside carry.seats him rule id other) ∙ sits.1, sits.2, sits.3));
  }

  module _ (id : ℕ) where
    abbrev then_seats : List Listener
    then_seats = at_his_turn sight (Ended mount) seats id

    abbrev others : List Listener
    others = without_listener then_seats id

    none_came : NobodyCameTo mount seats then_seats
    none_came =
        turn_cases sight (Ended mount) (λ carry. NobodyCameTo mount seats carry.seats) none_shifts none_ends
        (filter (λ other. nat_lt other id) (numbers_of seats)) (at_first seats)
        (record { same = refl; no_more = omega arith; sat = λ other user sits. sits })

    order_then : AreByNumber then_seats
    order_then = same_order seats then_seats none_came.same order

    -- each listener that is left after it is taken out is another one
    not_himself : (other : Listener) → listener_of others other.id ≡ Some other → other.id ≡ id → {A : Type 0} → A
    not_himself other found same =
        let none : listener_of others other.id ≡ None = ap (listener_of others) same ∙ is_no_listener then_seats id in cc

    module _ (seat : Seat) (has : seat_of seats id ≡ Some seat) (there : seat.mount ≡ mount) (live : sight.is_live mount ≡ true)
        (limit : IsWithinLimit sight seats mount) (once : SitOnce sight seats mount) (lets : sight.lets_in mount seat.pair ≡ true) where
      here : bytes_eq seat.mount mount ≡ true
      here = (bytes_eq-Decides seat.mount mount).1 there

      sits_then : seat_of then_seats id ≡ Some seat
      sits_then = ap seat_in (sits_as_before sight (Ended mount) seats id) ∙ has

      has_room : is_full_for sight others mount ≡ false
      has_room = by_limit (sight.limit mount) refl where
        by_limit : (most : Option ℕ) → sight.limit mount ≡ most → is_full (count_at others mount) most ≡ false
        by_limit None e = refl
        by_limit (Some most) e =
            let fewer = one_fewer mount then_seats id seat order_then sits_then here in
            let below : count_at others mount < most = omega (arith, fewer, none_came.no_more, limit most e) in
            room (count_at others mount) most below where
              room : (count most : ℕ) → count < most → not (nat_lt count most) ≡ false
              room count most below = grind (arith, nat_tests)

      -- nobody else sits there as its user
      nobody_else : (sent : Credentials) → seat.pair ≡ Some sent → sight.allows_duplicates mount ≡ false → sits_there others mount sent.user ≡ false
      nobody_else sent his off = by_there (sits_there others mount sent.user) refl where
        by_there : (b : Bool) → sits_there others mount sent.user ≡ b → sits_there others mount sent.user ≡ false
        by_there false e = e
        by_there true e =
            let found = some_one (λ (x : Listener). is_user_at mount sent.user x.seating) others e in
            let other = found.0 in
            let own : listener_of others other.id ≡ Some other = found_own other others (order_left then_seats order_then id) found.1 in
            let theirs = seat_there mount sent.user other.seating found.2 in
            by_number id other.id (λ same. not_himself other own (sym same))
            (λ apart.
            let sits : seat_of then_seats other.id ≡ Some theirs.0 =
            ap seat_in (sym (beside_left then_seats id other.id apart) ∙ own) ∙ ap seat_held theirs.1 in
            let mine : SitsAs seats id mount sent.user =
            (seat, has, there, ap (has_user sent.user) his ∙ (bytes_eq-Decides sent.user sent.user).1 refl) in
            let yours : SitsAs seats other.id mount sent.user =
            none_came.sat other.id sent.user (theirs.0, sits, theirs.2, sent_as sent.user theirs.0.pair theirs.3) in
            not_himself other own (once off sent.user other.id id yours mine))

      is_alone : is_twice_for sight others seat.pair mount ≡ false
      is_alone = by_setting (sight.allows_duplicates mount) refl where
        by_pair : (pair : Option Credentials) → seat.pair ≡ pair → sight.allows_duplicates mount ≡ false → sits_already others mount pair ≡ false
        by_pair None e off = refl
        by_pair (Some sent) e off = nobody_else sent e off

        by_setting : (b : Bool) → sight.allows_duplicates mount ≡ b → (not b && sits_already others mount seat.pair) ≡ false
        by_setting true e = refl
        by_setting false e = by_pair seat.pair refl e

      lands_here : landing sight others seat.pair mount ≡ Lands mount
      lands_here =
          landing_is sight others seat.pair mount
          ∙ ap (onward (walk 9 sight others seat.pair) (landing_here sight others seat.pair mount)) no_next
          ∙ fits where
            no_next : next_mount sight others mount ≡ None
            no_next = rw (live, has_room) refl

            fits : landing_here sight others seat.pair mount ≡ Lands mount
            fits = rw (live, has_room, lets, is_alone) refl

      pub stays_on : turn_of sight (Ended mount) then_seats id ≡ GoesTo mount
      stays_on =
          ap (turn_in sight others (Ended mount)) sits_then
          ∙ walks_from sight others mount seat there
          ∙ ap walks_on lands_here
