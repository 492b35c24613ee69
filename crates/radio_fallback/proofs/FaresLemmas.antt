-- what each turn of a carry keeps, and so the whole
use Rattle.std.proofs.Common.{◌≡◌, Bool, true, false, ℕ, ◌+◌, ◌<◌, ◌≤◌, ◌==◌, ◌⊎◌, inl, inr, Option, Some, None, List, [], ◌∷◌, not, refl, ap, sym, subst, ◌∙◌, arith}
use Rattle.radio_fallback.proofs.Words.{◌&&◌, find, nat_lt, if◌then◌else◌, IsStrictlySortedBy, nat_cmp, option_map, bytes_eq, eqb-true, nat_tests, bytes_eq-Decides, Credentials, Rule, update_first, find_here, find_later}
use Rattle.radio_fallback.proofs.Words.{find_apart, Listener, Seat, Seating, Sits, Finished, is_listener, listener_of, seat_held, seat_in, seat_of, moved, moved_to, with_move, loses, lost_by, with_end, without_listener}
use Rattle.radio_fallback.proofs.Words.{is_seat_at, count_at, has_user, sits_there, SitsAs, AreByNumber, beside_left, one, held, passing_updated, passing_removed, Move, MoveEffect, Stays, GoesTo, IsOut, Sight, is_full}
use Rattle.radio_fallback.proofs.Words.{is_twice_for, sits_already, Carry, turn_of, carry_after_move, turns, numbers_of, at_first, carried, IsWithinLimit, SitOnce, seat_at_end, IsCarriedTo, HadASeat}
use Rattle.radio_tables.proofs.KeyLaws.{by_number, by_name}
use Rattle.radio_seats_rows.proofs.CountLaws.{no_more_updated, nobody_sits_as}
use Rattle.radio_fallback.proofs.CarryLemmas.{same_numbers}
use Rattle.radio_fallback.proofs.TurnLemmas.{IsShifted, is_shifted}

-- what holds at first, and is kept by each who is shifted and by each who is out, holds after the whole
module _ (sight : Sight) (move : Move) (P : Carry → Type 0)
    (shifts : (carry : Carry) (id : ℕ) (to : List ℕ) → P carry → IsShifted sight move carry.seats id to → P (carry_after_move sight id carry (GoesTo to)))
    (ends : (carry : Carry) (id : ℕ) (rule : Rule) → P carry → P (carry_after_move sight id carry (IsOut rule))) where
  turn_by : (carry : Carry) (id : ℕ) (turn : MoveEffect) → turn_of sight move carry.seats id ≡ turn → P carry → P (carry_after_move sight id carry turn)
  turn_by carry id Stays e holds = holds
  turn_by carry id (GoesTo to) e holds = shifts carry id to holds (is_shifted sight move carry.seats id to e)
  turn_by carry id (IsOut rule) e holds = ends carry id rule holds

  pub turn_cases : (ids : List ℕ) (carry : Carry) → P carry → P (turns sight move ids carry)
  turn_cases [] carry holds = holds
  turn_cases (id ∷ ids) carry holds =
      turn_cases ids (carry_after_move sight id carry (turn_of sight move carry.seats id)) (turn_by carry id (turn_of sight move carry.seats id) refl holds)

-- the numbers stay
pub numbers_kept : (sight : Sight) (move : Move) (seats : List Listener) → numbers_of (carried sight move seats).seats ≡ numbers_of seats
numbers_kept sight move seats =
    turn_cases sight move (λ carry. numbers_of carry.seats ≡ numbers_of seats)
    (λ carry id to e shifted. same_numbers sight id carry (GoesTo to) ∙ e)
    (λ carry id rule e. same_numbers sight id carry (IsOut rule) ∙ e)
    (numbers_of seats) (at_first seats) refl

-- one listener changed: it itself, and all others
changed_at : (p : Listener → Bool) (f : Listener → Listener) (x : Listener) (xs : List Listener) (b : Bool) → p x ≡ b → p (f x) ≡ p x
    → find p (update_first p f xs) ≡ option_map f (find p xs)
    → find p (if b then f x ∷ xs else x ∷ update_first p f xs) ≡ option_map f (find p (x ∷ xs))
changed_at p f x xs true e same later = find_here p (f x) xs (same ∙ e) ∙ sym (ap (option_map f) (find_here p x xs e))
changed_at p f x xs false e same later = find_later p x (update_first p f xs) e ∙ later ∙ sym (ap (option_map f) (find_later p x xs e))

pub found_changed : (p : Listener → Bool) (f : Listener → Listener) → ((x : Listener) → p (f x) ≡ p x) → (xs : List Listener)
    → find p (update_first p f xs) ≡ option_map f (find p xs)
found_changed p f same [] = refl
found_changed p f same (x ∷ xs) = changed_at p f x xs (p x) refl (same x) (found_changed p f same xs)

pub beside : (f : Listener → Listener) → ((x : Listener) → (f x).id ≡ x.id) → (seats : List Listener) (him id : ℕ) → (him == id) ≡ false
    → listener_of (update_first (is_listener him) f seats) id ≡ listener_of seats id
beside f same seats him id other =
    find_apart (is_listener id) (is_listener him) f
    (λ x e. let apart : (x.id == id) ≡ false = ap (λ n. n == id) (eqb-true x.id him e) ∙ other in (apart, ap (λ n. n == id) (same x) ∙ apart)) seats

-- who is shifted sits there, from the end of its stream
module _ (sight : Sight) (seats : List Listener) (him : ℕ) (to : List ℕ) where
  abbrev pub shifted_there : List Listener
  shifted_there = with_move seats him to (sight.stream_end to).session (sight.stream_end to).place

  abbrev shifted_one : Listener → Listener
  shifted_one = moved to (sight.stream_end to).session (sight.stream_end to).place

  seating_then : (seating : Seating) (old : Seat) → seat_held seating ≡ Some old
      → seat_held (moved_to to (sight.stream_end to).session (sight.stream_end to).place seating) ≡ Some (seat_at_end sight to old)
  seating_then (Sits seat) old e = let same : seat ≡ old = cc in ap (λ (x : Seat). Some (seat_at_end sight to x)) same
  seating_then (Finished rule mount) old e = cc

  listener_then : (listener : Option Listener) (old : Seat) → seat_in listener ≡ Some old
      → seat_in (option_map shifted_one listener) ≡ Some (seat_at_end sight to old)
  listener_then None old e = cc
  listener_then (Some listener) old e = seating_then listener.seating old e

  pub shifted_himself : (old : Seat) → seat_of seats him ≡ Some old → seat_of shifted_there him ≡ Some (seat_at_end sight to old)
  shifted_himself old has =
      ap seat_in (found_changed (is_listener him) shifted_one (λ x. refl) seats) ∙ listener_then (listener_of seats him) old has

  pub shifted_beside : (id : ℕ) → (him == id) ≡ false → seat_of shifted_there id ≡ seat_of seats id
  shifted_beside id other = ap seat_in (beside shifted_one (λ x. refl) seats him id other)

-- who is out has no seat
module _ (seats : List Listener) (him : ℕ) (rule : Rule) where
  no_seat : (seating : Seating) → seat_held (lost_by rule seating) ≡ None
  no_seat (Sits seat) = refl
  no_seat (Finished other mount) = refl

  no_seat_in : (listener : Option Listener) → seat_in (option_map (loses rule) listener) ≡ None
  no_seat_in None = refl
  no_seat_in (Some listener) = no_seat listener.seating

  pub out_himself : seat_of (with_end seats him rule) him ≡ None
  out_himself = ap seat_in (found_changed (is_listener him) (loses rule) (λ x. refl) seats) ∙ no_seat_in (listener_of seats him)

  pub out_beside : (id : ℕ) → (him == id) ≡ false → seat_of (with_end seats him rule) id ≡ seat_of seats id
  out_beside id other = ap seat_in (beside (loses rule) (λ x. refl) seats him id other)

-- what is open lets it in
and_first : (a b : Bool) → (a && b) ≡ true → a ≡ true
and_first true b e = refl
and_first false b e = cc

and_second : (a b : Bool) → (a && not b) ≡ true → b ≡ false
and_second true true e = cc
and_second true false e = refl
and_second false b e = cc

-- everybody had a seat before who has one
module _ (sight : Sight) (move : Move) (seats : List Listener) where
  abbrev pub AllHadSeats : Carry → Type 0
  AllHadSeats carry = (id : ℕ) (seat : Seat) → seat_of carry.seats id ≡ Some seat → HadASeat sight seats id seat

  -- who was carried before is carried on
  carried_on : (old mid : Seat) (to : List ℕ) → sight.is_live to ≡ true → sight.lets_in to mid.pair ≡ true
      → (mid ≡ old) ⊎ ((mount : List ℕ) × IsCarriedTo sight old mid mount) → IsCarriedTo sight old (seat_at_end sight to mid) to
  carried_on old mid to live lets (inl same) =
      record { is_live = live; is_let_in = ap (λ (x : Seat). sight.lets_in to x.pair) (sym same) ∙ lets; at_its_end = ap (seat_at_end sight to) same }
  carried_on old mid to live lets (inr before) =
      record {
        is_live = live;
        is_let_in = ap (λ (x : Seat). sight.lets_in to x.pair) (sym before.1.at_its_end) ∙ lets;
        at_its_end = ap (seat_at_end sight to) before.1.at_its_end;
      }

  access_shifts : (carry : Carry) (him : ℕ) (to : List ℕ) → AllHadSeats carry → IsShifted sight move carry.seats him to
      → AllHadSeats (carry_after_move sight him carry (GoesTo to))
  access_shifts carry him to all shifted id seat has =
      by_number him id
      (λ same.
      let mid = shifted.seat in
      let now : seat_of (shifted_there sight carry.seats him to) id ≡ Some (seat_at_end sight to mid)
      = ap (seat_of (shifted_there sight carry.seats him to)) (sym same) ∙ shifted_himself sight carry.seats him to mid shifted.had in
      let is : seat_at_end sight to mid ≡ seat = cc in
      let had = all id mid (ap (seat_of carry.seats) (sym same) ∙ shifted.had) in
      let whole = carried_on had.0 mid to shifted.fits.is_live
      (and_first (sight.lets_in to mid.pair) _ shifted.fits.is_open) had.2 in
      (had.0, had.1, inr (to, subst (λ (x : Seat). IsCarriedTo sight had.0 x to) is whole)))
      (λ other. all id seat (sym (shifted_beside sight carry.seats him to id other) ∙ has))

  access_ends : (carry : Carry) (him : ℕ) (rule : Rule) → AllHadSeats carry → AllHadSeats (carry_after_move sight him carry (IsOut rule))
  access_ends carry him rule all id seat has =
      by_number him id
      (λ same. let none : seat_of (with_end carry.seats him rule) id ≡ None =
      ap (seat_of (with_end carry.seats him rule)) (sym same) ∙ out_himself carry.seats him rule in cc)
      (λ other. all id seat (sym (out_beside carry.seats him rule id other) ∙ has))

  pub had_seats : (id : ℕ) (seat : Seat) → seat_of (carried sight move seats).seats id ≡ Some seat → HadASeat sight seats id seat
  had_seats =
      turn_cases sight move AllHadSeats access_shifts access_ends (numbers_of seats) (at_first seats)
      (λ id seat has. (seat, has, inl refl))

-- how many sit at a mount
module _ (sight : Sight) (seats : List Listener) (him : ℕ) (mount : List ℕ) where
  abbrev at_mount : Listener → Bool
  at_mount listener = is_seat_at mount listener.seating

  held_shifted : (to : List ℕ) (listener : Option Listener) → held at_mount (option_map (shifted_one sight seats him to) listener) ≤ one (bytes_eq to mount)
  held_shifted to None = omega arith
  held_shifted to (Some listener) = by_seating listener.seating where
    by_seating : (seating : Seating)
        → one (is_seat_at mount (moved_to to (sight.stream_end to).session (sight.stream_end to).place seating)) ≤ one (bytes_eq to mount)
    by_seating (Sits seat) = omega arith
    by_seating (Finished rule last) = omega arith

  pub count_shifted : (to : List ℕ) → AreByNumber seats
      → count_at (shifted_there sight seats him to) mount ≤ count_at (without_listener seats him) mount + one (bytes_eq to mount)
  count_shifted to rising =
      let updated = passing_updated at_mount (is_listener him) (shifted_one sight seats him to) seats in
      let removed = passing_removed at_mount (λ (x : Listener). x.id) him seats rising in
      let his = held_shifted to (listener_of seats him) in
      omega (arith, updated, removed, his)

  pub count_beside : AreByNumber seats → count_at (without_listener seats him) mount ≤ count_at seats mount
  count_beside rising = let removed = passing_removed at_mount (λ (x : Listener). x.id) him seats rising in omega (arith, removed)

  not_there : (rule : Rule) (seating : Seating) → is_seat_at mount (lost_by rule seating) ≡ true → is_seat_at mount seating ≡ true
  not_there rule (Sits seat) e = cc
  not_there rule (Finished other last) e = cc

  pub count_out : (rule : Rule) → count_at (with_end seats him rule) mount ≤ count_at seats mount
  count_out rule = no_more_updated at_mount (is_listener him) (loses rule) (λ listener. not_there rule listener.seating) seats

-- no mount has more than may sit there
has_room : (count most : ℕ) (limit : Option ℕ) → limit ≡ Some most → is_full count limit ≡ false → count < most
has_room count most None e h = cc
has_room count most (Some other) e h = let same : other ≡ most = cc in let below : count < other = less count other h in subst (λ (n : ℕ). count < n) same below where
  less : (a b : ℕ) → not (nat_lt a b) ≡ false → a < b
  less a b h = grind (arith, nat_tests)

module _ (sight : Sight) (move : Move) (seats : List Listener) (mount : List ℕ) (rising : AreByNumber seats) (within : IsWithinLimit sight seats mount) where
  abbrev pub KeepsLimit : Carry → Type 0
  KeepsLimit carry = (numbers_of carry.seats ≡ numbers_of seats) × IsWithinLimit sight carry.seats mount

  rises : (carry : Carry) → numbers_of carry.seats ≡ numbers_of seats → AreByNumber carry.seats
  rises carry same = subst (λ (ns : List ℕ). IsStrictlySortedBy nat_cmp ns) (sym same) rising

  limit_shifts : (carry : Carry) (him : ℕ) (to : List ℕ) → KeepsLimit carry → IsShifted sight move carry.seats him to
      → KeepsLimit (carry_after_move sight him carry (GoesTo to))
  limit_shifts carry him to holds shifted = (
    same_numbers sight him carry (GoesTo to) ∙ holds.0,
    λ most limit.
        let rise = rises carry holds.0 in
        let counted = count_shifted sight carry.seats him mount to rise in
        by_name to mount
        (λ same.
        let room : count_at (without_listener carry.seats him) to < most
        = has_room (count_at (without_listener carry.seats him) to) most (sight.limit to) (ap sight.limit same ∙ limit) shifted.fits.has_room in
        let here : count_at (without_listener carry.seats him) mount < most = subst (λ (m : List ℕ). count_at (without_listener carry.seats him) m < most) same room in
        let more = at_most_one (bytes_eq to mount) in
        omega (arith, counted, here, more))
        (λ other.
        let none : one (bytes_eq to mount) ≡ 0 = ap one other in
        let before = holds.1 most limit in
        let fewer = count_beside sight carry.seats him mount rise in
        omega (arith, counted, none, before, fewer)),
  ) where
    at_most_one : (b : Bool) → one b ≤ 1
    at_most_one true = omega arith
    at_most_one false = omega arith

  limit_ends : (carry : Carry) (him : ℕ) (rule : Rule) → KeepsLimit carry → KeepsLimit (carry_after_move sight him carry (IsOut rule))
  limit_ends carry him rule holds = (
    same_numbers sight him carry (IsOut rule) ∙ holds.0,
    λ most limit.
        let before = holds.1 most limit in
        let fewer = count_out sight carry.seats him mount rule in
        omega (arith, before, fewer),
  )

  pub keeps_limit : IsWithinLimit sight (carried sight move seats).seats mount
  keeps_limit = (turn_cases sight move KeepsLimit limit_shifts limit_ends (numbers_of seats) (at_first seats) (refl, within)).1

-- where each may sit once, nobody sits twice
no_user : (others : List Listener) (mount user : List ℕ) (pair : Option Credentials) → sits_already others mount pair ≡ false → has_user user pair ≡ true
    → sits_there others mount user ≡ false
no_user others mount user None none his = cc
no_user others mount user (Some sent) none his = let same : sent.user ≡ user = (bytes_eq-Decides sent.user user).0 his in ap (sits_there others mount) (sym same) ∙ none

not_twice : (allows already : Bool) → allows ≡ false → (not allows && already) ≡ false → already ≡ false
not_twice allows already e h = rw (← ap (λ b. not b && already) e) h

module _ (sight : Sight) (move : Move) (seats : List Listener) (mount : List ℕ) where
  -- nobody else sits there as the one who comes
  alone : (carry : Carry) (him : ℕ) (to : List ℕ) (shifted : IsShifted sight move carry.seats him to) → sight.allows_duplicates to ≡ false
      → (user : List ℕ) (other : ℕ) → (him == other) ≡ false → has_user user shifted.seat.pair ≡ true → SitsAs carry.seats other to user → ⊥
  alone carry him to shifted allows user other apart his sits =
      let others = without_listener carry.seats him in
      let once = and_second (sight.lets_in to shifted.seat.pair) (is_twice_for sight others shifted.seat.pair to) shifted.fits.is_open in
      let none = not_twice (sight.allows_duplicates to) (sits_already others to shifted.seat.pair) allows once in
      nobody_sits_as others other to user (no_user others to user shifted.seat.pair none his)
      (sits.0, ap seat_in (beside_left carry.seats him other apart) ∙ sits.1, sits.2, sits.3)

  -- who sits there as this user after it came
  sat_before : (carry : Carry) (him : ℕ) (to : List ℕ) (user : List ℕ) (id : ℕ) → (him == id) ≡ false
      → SitsAs (shifted_there sight carry.seats him to) id mount user → SitsAs carry.seats id mount user
  sat_before carry him to user id apart sits = (sits.0, sym (shifted_beside sight carry.seats him to id apart) ∙ sits.1, sits.2, sits.3)

  once_shifts : (carry : Carry) (him : ℕ) (to : List ℕ) → SitOnce sight carry.seats mount → IsShifted sight move carry.seats him to
      → SitOnce sight (carry_after_move sight him carry (GoesTo to)).seats mount
  once_shifts carry him to once shifted allows user id other sits as_well =
      by_number him id
      (λ same.
      by_number him other
      (λ both. sym same ∙ both)
      (λ apart. absurd (came_alone id other same apart sits as_well)))
      (λ apart.
      by_number him other
      (λ same. absurd (came_alone other id same apart as_well sits))
      (λ both_apart.
      once allows user id other (sat_before carry him to user id apart sits) (sat_before carry him to user other both_apart as_well))) where
        came_alone : (one_id other_id : ℕ) → him ≡ one_id → (him == other_id) ≡ false
            → SitsAs (shifted_there sight carry.seats him to) one_id mount user → SitsAs (shifted_there sight carry.seats him to) other_id mount user → ⊥
        came_alone one_id other_id same apart his theirs =
            let now : seat_of (shifted_there sight carry.seats him to) one_id ≡ Some (seat_at_end sight to shifted.seat)
            = ap (seat_of (shifted_there sight carry.seats him to)) (sym same) ∙ shifted_himself sight carry.seats him to shifted.seat shifted.had in
            let found : Some (seat_at_end sight to shifted.seat) ≡ Some his.0 = sym now ∙ his.1 in
            let is : seat_at_end sight to shifted.seat ≡ his.0 = cc in
            let there : to ≡ mount = ap (λ (x : Seat). x.mount) is ∙ his.2 in
            let sent : has_user user shifted.seat.pair ≡ true = ap (λ (x : Seat). has_user user x.pair) is ∙ his.3 in
            alone carry him to shifted (ap sight.allows_duplicates there ∙ allows) user other_id apart sent
            (subst (λ (m : List ℕ). SitsAs carry.seats other_id m user) (sym there) (sat_before carry him to user other_id apart theirs))

  once_ends : (carry : Carry) (him : ℕ) (rule : Rule) → SitOnce sight carry.seats mount → SitOnce sight (carry_after_move sight him carry (IsOut rule)).seats mount
  once_ends carry him rule once allows user id other sits as_well =
      once allows user id other (still id sits) (still other as_well) where
        still : (one_id : ℕ) → SitsAs (with_end carry.seats him rule) one_id mount user → SitsAs carry.seats one_id mount user
        still one_id his =
            by_number him one_id
            (λ same. let none : seat_of (with_end carry.seats him rule) one_id ≡ None =
            ap (seat_of (with_end carry.seats him rule)) (sym same) ∙ out_himself carry.seats him rule in cc)
            (λ apart. (his.0, sym (out_beside carry.seats him rule one_id apart) ∙ his.1, his.2, his.3))

  pub sit_once : SitOnce sight seats mount → SitOnce sight (carried sight move seats).seats mount
  sit_once once =
      turn_cases sight move (λ carry. SitOnce sight carry.seats mount) once_shifts once_ends (numbers_of seats) (at_first seats) once
