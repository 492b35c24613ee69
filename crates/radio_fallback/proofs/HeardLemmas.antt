-- where one sits, and what its turn comes to, does not go by how far anybody has heard
use Rattle.std.proofs.Common.{◌≡◌, Bool, true, false, ℕ, ◌==◌, zero, suc, Option, Some, None, List, [], ◌∷◌, length, not, inl, inr, refl, ap, sym, subst, ◌∙◌, arith}
use Rattle.radio_fallback.proofs.Words.{filter, if◌then◌else◌, unwrap_or, AllByRecursion, IsStrictlySortedBy, option_map, nat_cmp, Less, eqb-true, nat_tests, sorted_head, sorted_tail, update_first, Each, find_mapped}
use Rattle.radio_fallback.proofs.Words.{Credentials, Rule, Listener, Seating, Sits, Finished, is_listener, listener_of, seat_held, seat_in, seat_of, is_seat_at, seats_at, count_at, is_user_at, sits_there}
use Rattle.radio_fallback.proofs.Words.{without_listener, AreByNumber, next_number, with_move, with_end, moved, loses, moved_to, lost_by, Move, Ended, Up, To, Sight, is_full, is_full_for, sits_already, found_at, stop_of}
use Rattle.radio_fallback.proofs.Words.{landing_at, landing_here, next_mount, onward, walk, landing, concerns, walks_on, is_asked, turn_by, turn_in, turn_of, carry_after_move, turns, at_first, carried, Carry, numbers_of}
use Rattle.radio_fallback.proofs.Words.{numbers_past, Heard, heard_seating, heard_by, heard, OthersStay, IsAt, MoveEffect, Stays, GoesTo, IsOut, Carried, is_past}
use Rattle.radio_fallback.proofs.WalkLaws.{walks_ten}
use Rattle.radio_fallback.proofs.CarryLemmas.{everybody_is_past, next_has_his_turn, same_numbers}

module _ (f : Heard) where
  -- the same numbers
  pub numbers_heard : (seats : List Listener) → numbers_of (heard f seats) ≡ numbers_of seats
  numbers_heard [] = refl
  numbers_heard (listener ∷ seats) = ap (λ ids. listener.id ∷ ids) (numbers_heard seats)

  -- as many at each mount, and of the same users
  at_heard : (mount : List ℕ) (id : ℕ) (seating : Seating) → is_seat_at mount (heard_seating f id seating) ≡ is_seat_at mount seating
  at_heard mount id (Sits seat) = refl
  at_heard mount id (Finished rule last) = refl

  count_if : (b c : Bool) (x y : Listener) (xs ys : List Listener) → b ≡ c → length xs ≡ length ys
      → length (if b then x ∷ xs else xs) ≡ length (if c then y ∷ ys else ys)
  count_if true true x y xs ys e rest = omega (arith, rest)
  count_if false false x y xs ys e rest = rest
  count_if true false x y xs ys e rest = cc
  count_if false true x y xs ys e rest = cc

  pub count_heard : (mount : List ℕ) (seats : List Listener) → count_at (heard f seats) mount ≡ count_at seats mount
  count_heard mount [] = refl
  count_heard mount (l ∷ seats) =
      count_if (is_seat_at mount (heard_seating f l.id l.seating)) (is_seat_at mount l.seating) (heard_by f l) l
      (seats_at (heard f seats) mount) (seats_at seats mount) (at_heard mount l.id l.seating) (count_heard mount seats)

  user_heard : (mount user : List ℕ) (id : ℕ) (seating : Seating) → is_user_at mount user (heard_seating f id seating) ≡ is_user_at mount user seating
  user_heard mount user id (Sits seat) = refl
  user_heard mount user id (Finished rule last) = refl

  pub there_heard : (mount user : List ℕ) (seats : List Listener) → sits_there (heard f seats) mount user ≡ sits_there seats mount user
  there_heard mount user [] = refl
  there_heard mount user (l ∷ seats) = rw (user_heard mount user l.id l.seating, there_heard mount user seats) refl

  -- the same others
  others_at : (l : Listener) (seats : List Listener) (id : ℕ) (b : Bool) → without_listener (heard f seats) id ≡ heard f (without_listener seats id)
      → (if b then heard_by f l ∷ without_listener (heard f seats) id else without_listener (heard f seats) id)
      ≡ heard f (if b then l ∷ without_listener seats id else without_listener seats id)
  others_at l seats id true later = ap (λ ls. heard_by f l ∷ ls) later
  others_at l seats id false later = later

  pub others_heard : (seats : List Listener) (id : ℕ) → without_listener (heard f seats) id ≡ heard f (without_listener seats id)
  others_heard [] id = refl
  others_heard (l ∷ seats) id = others_at l seats id (not (is_listener id l)) (others_heard seats id)

  -- it itself
  pub listener_heard : (seats : List Listener) (id : ℕ) → listener_of (heard f seats) id ≡ option_map (heard_by f) (listener_of seats id)
  listener_heard seats id = find_mapped (is_listener id) (heard_by f) (λ x. refl) seats

  -- a walk among them
  module _ (sight : Sight) (others : List Listener) where
    pub full_heard : (mount : List ℕ) → is_full_for sight (heard f others) mount ≡ is_full_for sight others mount
    full_heard mount = ap (λ n. is_full n (sight.limit mount)) (count_heard mount others)

    already_heard : (mount : List ℕ) (pair : Option Credentials) → sits_already (heard f others) mount pair ≡ sits_already others mount pair
    already_heard mount None = refl
    already_heard mount (Some sent) = there_heard mount sent.user others

    pub found_heard : (mount : List ℕ) (pair : Option Credentials) → found_at sight (heard f others) mount pair ≡ found_at sight others mount pair
    found_heard mount pair = let full = full_heard mount in let already = already_heard mount pair in rw (full, already) refl

    here_heard : (mount : List ℕ) (pair : Option Credentials) → landing_here sight (heard f others) pair mount ≡ landing_here sight others pair mount
    here_heard mount pair = ap (λ found. landing_at mount (stop_of found)) (found_heard mount pair)

    next_heard : (mount : List ℕ) → next_mount sight (heard f others) mount ≡ next_mount sight others mount
    next_heard mount = let full = full_heard mount in rw full refl

    walk_on : (left : ℕ) (mount : List ℕ) (pair : Option Credentials)
        → ((next : List ℕ) → walk left sight (heard f others) pair next ≡ walk left sight others pair next) → (next : Option (List ℕ))
        → onward (walk left sight (heard f others) pair) (landing_here sight others pair mount) next
        ≡ onward (walk left sight others pair) (landing_here sight others pair mount) next
    walk_on left mount pair later None = refl
    walk_on left mount pair later (Some next) = later next

    walk_heard : (left : ℕ) (mount : List ℕ) (pair : Option Credentials) → walk left sight (heard f others) pair mount ≡ walk left sight others pair mount
    walk_heard zero mount pair = refl
    walk_heard (suc left) mount pair =
        ap (λ here. onward (walk left sight (heard f others) pair) here (next_mount sight (heard f others) mount)) (here_heard mount pair)
        ∙ ap (onward (walk left sight (heard f others) pair) (landing_here sight others pair mount)) (next_heard mount)
        ∙ walk_on left mount pair (λ next. walk_heard left next pair) (next_mount sight others mount)

    pub landing_heard : (mount : List ℕ) (pair : Option Credentials) → landing sight (heard f others) pair mount ≡ landing sight others pair mount
    landing_heard mount pair = sym (walks_ten sight (heard f others) pair mount) ∙ walk_heard 10 mount pair ∙ walks_ten sight others pair mount

    by_heard : (pair : Option Credentials) (move : Move) → turn_by sight (heard f others) pair move ≡ turn_by sight others pair move
    by_heard pair (Ended mount) = ap walks_on (landing_heard mount pair)
    by_heard pair (Up mount) = ap is_asked (here_heard mount pair)
    by_heard pair (To mount destination) = ap is_asked (here_heard destination pair)

  -- so its turn is the same
  module _ (sight : Sight) (move : Move) (seats : List Listener) (id : ℕ) where
    turn_seated : (n : ℕ) (seating : Seating)
        → turn_in sight (heard f (without_listener seats id)) move (seat_held (heard_seating f n seating))
        ≡ turn_in sight (without_listener seats id) move (seat_held seating)
    turn_seated n (Sits seat) = ap (λ turn. if concerns move seat.mount seat.home then turn else Stays) (by_heard sight (without_listener seats id) seat.pair move)
    turn_seated n (Finished rule last) = refl

    turn_found : (found : Option Listener)
        → turn_in sight (heard f (without_listener seats id)) move (seat_in (option_map (heard_by f) found))
        ≡ turn_in sight (without_listener seats id) move (seat_in found)
    turn_found None = refl
    turn_found (Some listener) = turn_seated listener.id listener.seating

    pub turn_heard : turn_of sight move (heard f seats) id ≡ turn_of sight move seats id
    turn_heard =
        ap (λ (others : List Listener). turn_in sight others move (seat_of (heard f seats) id)) (others_heard seats id)
        ∙ ap (λ (found : Option Listener). turn_in sight (heard f (without_listener seats id)) move (seat_in found)) (listener_heard seats id)
        ∙ turn_found (listener_of seats id)

-- one goes elsewhere, or loses its seat, and nobody else has heard more or less
module _ (f g : Heard) (id : ℕ) (stay : OthersStay f g id) where
  pub seating_stays : (n : ℕ) → (id == n) ≡ false → (seating : Seating) → heard_seating g n seating ≡ heard_seating f n seating
  seating_stays n apart (Sits seat) = ap (λ found. Sits (record seat { place = unwrap_or found seat.place })) (stay seat.mount n apart)
  seating_stays n apart (Finished rule mount) = refl

  pub all_stay : (seats : List Listener) → Each (λ (l : Listener). (id == l.id) ≡ false) seats → heard g seats ≡ heard f seats
  all_stay [] all = refl
  all_stay (l ∷ seats) all =
      ap (λ (seating : Seating). record { id = l.id; seating = seating } ∷ heard g seats) (seating_stays l.id all.0 l.seating)
      ∙ ap (λ ls. heard_by f l ∷ ls) (all_stay seats all.1)

  above_apart : (n m : ℕ) → (n == id) ≡ true → nat_cmp n m ≡ Less → (id == m) ≡ false
  above_apart n m is less = grind (arith, nat_tests)

  pub each_apart : (n : ℕ) → (n == id) ≡ true → (seats : List Listener) → AllByRecursion (λ m. nat_cmp n m ≡ Less) (numbers_of seats)
      → Each (λ (l : Listener). (id == l.id) ≡ false) seats
  each_apart n is [] all = tt
  each_apart n is (l ∷ seats) all = (above_apart n l.id is all.0, each_apart n is seats all.1)

  flipped : (n : ℕ) → (n == id) ≡ false → (id == n) ≡ false
  flipped n e = grind (arith, nat_tests)

  module _ (change : Listener → Listener) (his : (l : Listener) → (l.id == id) ≡ true → heard_by g (change l) ≡ change (heard_by f l)) where
    changed_at : (l : Listener) (seats : List Listener) (b : Bool) → (l.id == id) ≡ b → AllByRecursion (λ m. nat_cmp l.id m ≡ Less) (numbers_of seats)
        → heard g (update_first (is_listener id) change seats) ≡ update_first (is_listener id) change (heard f seats)
        → heard g (if b then change l ∷ seats else l ∷ update_first (is_listener id) change seats)
        ≡ (if b then change (heard_by f l) ∷ heard f seats else heard_by f l ∷ update_first (is_listener id) change (heard f seats))
    changed_at l seats true e all later =
        ap (λ (x : Listener). x ∷ heard g seats) (his l e) ∙ ap (λ ls. change (heard_by f l) ∷ ls) (all_stay seats (each_apart l.id e seats all))
    changed_at l seats false e all later =
        ap (λ (seating : Seating). record { id = l.id; seating = seating } ∷ heard g (update_first (is_listener id) change seats))
        (seating_stays l.id (flipped l.id e) l.seating)
        ∙ ap (λ ls. heard_by f l ∷ ls) later

    pub changed_heard : (seats : List Listener) → AreByNumber seats
        → heard g (update_first (is_listener id) change seats) ≡ update_first (is_listener id) change (heard f seats)
    changed_heard [] rising = refl
    changed_heard (l ∷ seats) rising =
        changed_at l seats (l.id == id) refl (sorted_head nat_cmp l.id (numbers_of seats) rising)
        (changed_heard seats (sorted_tail nat_cmp l.id (numbers_of seats) rising))

  -- who loses its seat
  pub ended_heard : (rule : Rule) (seats : List Listener) → AreByNumber seats → heard g (with_end seats id rule) ≡ with_end (heard f seats) id rule
  ended_heard rule seats rising = changed_heard (loses rule) (λ l e. by_seating l.id l.seating) seats rising where
    by_seating : (n : ℕ) (seating : Seating) → heard_by g (record { id = n; seating = lost_by rule seating })
        ≡ loses rule (record { id = n; seating = heard_seating f n seating })
    by_seating n (Sits seat) = refl
    by_seating n (Finished other mount) = refl

  -- who goes elsewhere
  pub moved_heard : (mount : List ℕ) (session place : ℕ) → IsAt (g mount id) place → (seats : List Listener) → AreByNumber seats
      → heard g (with_move seats id mount session place) ≡ with_move (heard f seats) id mount session place
  moved_heard mount session place there seats rising = changed_heard (moved mount session place) (λ l e. by_seating l.id (at_place l.id e) l.seating) seats rising where
    placed : (found : Option ℕ) → IsAt found place → unwrap_or found place ≡ place
    placed None at = refl
    placed (Some other) (inl none) = cc
    placed (Some other) (inr some) = cc

    at_place : (n : ℕ) → (n == id) ≡ true → unwrap_or (g mount n) place ≡ place
    at_place n e = subst (λ (k : ℕ). unwrap_or (g mount k) place ≡ place) (sym (eqb-true n id e)) (placed (g mount id) there)

    by_seating : (n : ℕ) → unwrap_or (g mount n) place ≡ place → (seating : Seating)
        → heard_by g (record { id = n; seating = moved_to mount session place seating })
        ≡ moved mount session place (record { id = n; seating = heard_seating f n seating })
    by_seating n at (Sits seat) =
        ap (λ (p : ℕ). record { id = n; seating = Sits (record seat { mount = mount; session = session; place = p }) }) at
    by_seating n at (Finished rule last) = refl

-- a turn, and all turns
module _ (sight : Sight) (move : Move) where
  abbrev in_turn : List Listener → Carried → ℕ → Carry
  in_turn seats counts id = carry_after_move sight id (record { seats = seats; counts = counts }) (turn_of sight move seats id)

  -- the counts are the same
  pub counts_heard : (f : Heard) (seats : List Listener) (counts : Carried) (id : ℕ) → (in_turn (heard f seats) counts id).counts ≡ (in_turn seats counts id).counts
  counts_heard f seats counts id =
      ap (λ (turn : MoveEffect). (carry_after_move sight id (record { seats = heard f seats; counts = counts }) turn).counts) (turn_heard f sight move seats id)
      ∙ by_turn (turn_of sight move seats id) where
        by_turn : (turn : MoveEffect) → (carry_after_move sight id (record { seats = heard f seats; counts = counts }) turn).counts
            ≡ (carry_after_move sight id (record { seats = seats; counts = counts }) turn).counts
        by_turn Stays = refl
        by_turn (GoesTo mount) = refl
        by_turn (IsOut rule) = refl

  -- all turns are to come at first
  pub begins_heard : (f : Heard) (seats : List Listener)
      → turns sight move (numbers_past None seats) (at_first (heard f seats)) ≡ carried sight move (heard f seats)
  begins_heard f seats = ap (λ ns. turns sight move ns (at_first (heard f seats))) (everybody_is_past (numbers_of seats) ∙ sym (numbers_heard f seats))

  -- and one after another they lead to the same
  module _ (f g : Heard) (last : Option ℕ) (id : ℕ) (seats : List Listener) (counts : Carried) (rising : IsStrictlySortedBy nat_cmp (numbers_of seats))
      (next : Some id ≡ next_number seats last) (later : List Listener) (counted : Carried)
      (is_later : later ≡ (in_turn seats counts id).seats) (is_counted : counted ≡ (in_turn seats counts id).counts)
      (is_heard : heard g later ≡ (in_turn (heard f seats) counts id).seats) where
    abbrev carry_then : Carry
    carry_then = record { seats = heard f seats; counts = counts }

    those_left : numbers_past (Some id) later ≡ numbers_past (Some id) seats
    those_left =
        ap (λ (ls : List Listener). numbers_past (Some id) ls) is_later
        ∙ ap (filter (is_past nat_cmp (Some id))) (same_numbers sight id (record { seats = seats; counts = counts }) (turn_of sight move seats id))

    pub goes_on_heard : turns sight move (numbers_past (Some id) later) (record { seats = heard g later; counts = counted })
        ≡ turns sight move (numbers_past last seats) carry_then
    goes_on_heard =
        ap (λ ns. turns sight move ns (record { seats = heard g later; counts = counted })) those_left
        ∙ ap (λ (ls : List Listener). turns sight move (numbers_past (Some id) seats) (record { seats = ls; counts = counted })) is_heard
        ∙ ap (λ (c : Carried). turns sight move (numbers_past (Some id) seats) (record { seats = (in_turn (heard f seats) counts id).seats; counts = c }))
        (is_counted ∙ sym (counts_heard f seats counts id))
        ∙ sym (ap (λ ns. turns sight move ns carry_then) (next_has_his_turn seats last id rising next))
