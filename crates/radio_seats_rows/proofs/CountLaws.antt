-- how many sit at a mount after each change of the table, and whose seats they are
use Rattle.std.proofs.Common.{◌≡◌, Bool, true, false, ℕ, ◌+◌, ◌≤◌, ◌||◌, Some, None, List, [], ◌∷◌, length, not, refl, ap, sym, ◌∙◌, arith}
use Rattle.std.specs.Prelude.{find, filter, map, if◌then◌else◌}
use Rattle.std.specs.List.{list_any}
use Rattle.std.specs.Str.{bytes_eq}
use Rattle.std.specs.Ordering.{match_ordering}
use Rattle.std.specs.declared.cmp.Ordering.{Ordering}
use Rattle.std.specs.declared.cmp.Ordering.TheVariants.{Less, Equal, Greater}
use Rattle.std.proofs.lemmas.Slice.Eq.{bytes_eq-Decides}
use Rattle.radio_tables.specs.Lists.{update_first, placed}
use Rattle.radio_tables.proofs.FindLaws.{find_here, find_later}
use Rattle.radio_tables.proofs.KeyLaws.{by_number}
use Rattle.radio_seats_rows.specs.declared.seat.Listener.{Listener}
use Rattle.radio_seats_rows.specs.declared.seat.Seat.{Seat}
use Rattle.radio_seats_rows.specs.declared.seat.Seating.{Seating}
use Rattle.radio_seats_rows.specs.declared.seat.Seating.TheVariants.{Sits, Finished}
use Rattle.radio_seats_rows.specs.Seats.{is_listener, seat_held, seat_in, seat_of, by_listener, seated, with_seat, heard_to, advanced, with_place, SitsAs}
use Rattle.radio_seats_rows.specs.Seats.{is_seat_at, without_listener, seats_at, has_user, is_user_at, sits_there}
use Rattle.radio_seats_rows.proofs.SeatLaws.{beside_moved, beside_left, is_no_listener, has_heard, listener_seated}

-- how many of a list pass a test, after a change of the list
module _ {X : Type 0} (p : X → Bool) where
  abbrev passing : List X → ℕ
  passing xs = length (filter p xs)

  one_at : (b : Bool) (x : X) (xs : List X) → length (if b then x ∷ xs else xs) ≤ length xs + 1
  one_at true x xs = omega arith
  one_at false x xs = omega arith

  none_at : (b : Bool) (x : X) (xs : List X) → b ≡ false → length (if b then x ∷ xs else xs) ≤ length xs
  none_at true x xs e = cc
  none_at false x xs e = omega arith

  behind_at : (b : Bool) (x : X) (xs : List X) → length xs ≤ length (if b then x ∷ xs else xs)
  behind_at true x xs = omega arith
  behind_at false x xs = omega arith

  both_at : (b c : Bool) (x y : X) (xs ys : List X) (k : ℕ) → (b ≡ true → c ≡ true) → length xs ≤ length ys + k
      → length (if b then x ∷ xs else xs) ≤ length (if c then y ∷ ys else ys) + k
  both_at true true x y xs ys k follows h = omega arith
  both_at true false x y xs ys k follows h = let no : false ≡ true = follows refl in cc
  both_at false true x y xs ys k follows h = omega arith
  both_at false false x y xs ys k follows h = h

  module _ (compare : X → X → Ordering) (new : X) (k : ℕ) (here : (xs : List X) → passing (new ∷ xs) ≤ passing xs + k) where
    placed_at : (x : X) (xs : List X) (o : Ordering) → passing (placed compare new xs) ≤ passing xs + k
        → passing (match_ordering o (new ∷ x ∷ xs) (new ∷ xs) (x ∷ placed compare new xs)) ≤ passing (x ∷ xs) + k
    placed_at x xs Less later = here (x ∷ xs)
    placed_at x xs Equal later = let before = behind_at (p x) x (filter p xs) in omega (arith, here xs, before)
    placed_at x xs Greater later = both_at (p x) (p x) x x (filter p (placed compare new xs)) (filter p xs) k (λ e. e) later

    passing_placed : (xs : List X) → passing (placed compare new xs) ≤ passing xs + k
    passing_placed [] = here []
    passing_placed (x ∷ xs) = placed_at x xs (compare new x) (passing_placed xs)

  pub one_more_placed : (compare : X → X → Ordering) (new : X) (xs : List X) → passing (placed compare new xs) ≤ passing xs + 1
  one_more_placed compare new xs = passing_placed compare new 1 (λ ys. one_at (p new) new (filter p ys)) xs

  pub no_more_placed : (compare : X → X → Ordering) (new : X) → p new ≡ false → (xs : List X) → passing (placed compare new xs) ≤ passing xs
  no_more_placed compare new not xs =
      let fewer = passing_placed compare new 0 (λ ys. let none = none_at (p new) new (filter p ys) not in omega (arith, none)) xs in omega (arith, fewer)

  pub no_more_mapped : (f : X → X) → ((x : X) → p (f x) ≡ true → p x ≡ true) → (xs : List X) → passing (map f xs) ≤ passing xs
  no_more_mapped f follows [] = omega arith
  no_more_mapped f follows (x ∷ xs) =
      let later = no_more_mapped f follows xs in
      let both = both_at (p (f x)) (p x) (f x) x (filter p (map f xs)) (filter p xs) 0 (follows x) (omega (arith, later)) in
      omega (arith, both)

  module _ (q : X → Bool) where
    updated_at : (f : X → X) → ((x : X) → p (f x) ≡ true → p x ≡ true) → (x : X) (xs : List X) (b : Bool)
        → passing (update_first q f xs) ≤ passing xs → passing (if b then f x ∷ xs else x ∷ update_first q f xs) ≤ passing (x ∷ xs)
    updated_at f follows x xs true later =
        let both = both_at (p (f x)) (p x) (f x) x (filter p xs) (filter p xs) 0 (follows x) (omega arith) in omega (arith, both)
    updated_at f follows x xs false later =
        let both = both_at (p x) (p x) x x (filter p (update_first q f xs)) (filter p xs) 0 (λ e. e) (omega (arith, later)) in omega (arith, both)

    pub no_more_updated : (f : X → X) → ((x : X) → p (f x) ≡ true → p x ≡ true) → (xs : List X) → passing (update_first q f xs) ≤ passing xs
    no_more_updated f follows [] = omega arith
    no_more_updated f follows (x ∷ xs) = updated_at f follows x xs (q x) (no_more_updated f follows xs)

    filtered_at : (x : X) (xs : List X) (b : Bool) → passing (filter q xs) ≤ passing xs
        → passing (if b then x ∷ filter q xs else filter q xs) ≤ passing (x ∷ xs)
    filtered_at x xs true later =
        let both = both_at (p x) (p x) x x (filter p (filter q xs)) (filter p xs) 0 (λ e. e) (omega (arith, later)) in omega (arith, both)
    filtered_at x xs false later = let before = behind_at (p x) x (filter p xs) in omega (arith, later, before)

    pub no_more_filtered : (xs : List X) → passing (filter q xs) ≤ passing xs
    no_more_filtered [] = omega arith
    no_more_filtered (x ∷ xs) = filtered_at x xs (q x) (no_more_filtered xs)

-- nobody has come, and whoever sits sat at that mount before, with the same pair
pub record NobodyCame (seats later : List Listener) : Type 0 where
  pub no_more : (mount : List ℕ) → length (seats_at later mount) ≤ length (seats_at seats mount)
  pub sat : (id : ℕ) (mount user : List ℕ) → SitsAs later id mount user → SitsAs seats id mount user

pub nobody_came : (seats : List Listener) → NobodyCame seats seats
nobody_came seats = record { no_more = λ mount. omega arith; sat = λ id mount user sits. sits }

-- it heard on
still_at : (mount : List ℕ) (place : ℕ) (seating : Seating) → is_seat_at mount (heard_to place seating) ≡ true → is_seat_at mount seating ≡ true
still_at mount place (Sits seat) e = e
still_at mount place (Finished rule last) e = e

pub nobody_came_hearing : (seats : List Listener) (him place : ℕ) (old : Seat) → seat_of seats him ≡ Some old → NobodyCame seats (with_place seats him place)
nobody_came_hearing seats him place old has = record {
  no_more = λ mount. no_more_updated (λ listener. is_seat_at mount listener.seating) (is_listener him) (advanced place)
      (λ listener e. still_at mount place listener.seating e) seats;
  sat = λ id mount user sits.
      by_number him id
      (λ same.
      let found : Some (record old { place = place }) ≡ Some sits.0 = sym (has_heard seats him place old has) ∙ ap (seat_of (with_place seats him place)) same
      ∙ sits.1 in
      let one : record old { place = place } ≡ sits.0 = cc in
      (old, ap (seat_of seats) (sym same) ∙ has, ap (λ (x : Seat). x.mount) one ∙ sits.2, ap (λ (x : Seat). has_user user x.pair) one ∙ sits.3))
      (λ other. (sits.0, sym (ap seat_in (beside_moved seats him id other place)) ∙ sits.1, sits.2, sits.3));
}

-- it left
pub nobody_came_leaving : (seats : List Listener) (him : ℕ) → NobodyCame seats (without_listener seats him)
nobody_came_leaving seats him = record {
  no_more = λ mount. no_more_filtered (λ listener. is_seat_at mount listener.seating) (λ listener. not (is_listener him listener)) seats;
  sat = λ id mount user sits.
      by_number him id
      (λ same. let none : seat_of (without_listener seats him) id ≡ None =
      ap (seat_of (without_listener seats him)) (sym same) ∙ ap seat_in (is_no_listener seats him) in cc)
      (λ other. (sits.0, sym (ap seat_in (beside_left seats him id other)) ∙ sits.1, sits.2, sits.3));
}

-- one has come: one more at the most sits at its mount, and no more at any other
pub one_more_at : (seats : List Listener) (id : ℕ) (seat : Seat) (mount : List ℕ)
    → length (seats_at (with_seat seats id seat) mount) ≤ length (seats_at seats mount) + 1
one_more_at seats id seat mount = one_more_placed (λ listener. is_seat_at mount listener.seating) by_listener (seated id seat) seats

pub no_more_elsewhere : (seats : List Listener) (id : ℕ) (seat : Seat) (mount : List ℕ) → bytes_eq seat.mount mount ≡ false
    → length (seats_at (with_seat seats id seat) mount) ≤ length (seats_at seats mount)
no_more_elsewhere seats id seat mount apart = no_more_placed (λ listener. is_seat_at mount listener.seating) by_listener (seated id seat) apart seats

-- where nobody sits as this user, no listener does
none_in : {X : Type 0} (p q : X → Bool) (x found : X) (xs : List X) (b : Bool) → q x ≡ b → (p x || list_any p xs) ≡ false
    → (list_any p xs ≡ false → find q xs ≡ Some found → p found ≡ false) → find q (x ∷ xs) ≡ Some found → p found ≡ false
none_in p q x found xs b e none later h = none_by (p x) refl b e none where
  none_by : (c : Bool) → p x ≡ c → (b : Bool) → q x ≡ b → (c || list_any p xs) ≡ false → p found ≡ false
  none_by true here b e none = cc
  none_by false here true e none =
      let first : find q (x ∷ xs) ≡ Some x = find_here q x xs e in
      let same : x ≡ found = cc in
      ap p (sym same) ∙ here
  none_by false here false e none = later none (sym (find_later q x xs e) ∙ h)

any_found : {X : Type 0} (p q : X → Bool) (xs : List X) (found : X) → list_any p xs ≡ false → find q xs ≡ Some found → p found ≡ false
any_found p q [] found none h = cc
any_found p q (x ∷ xs) found none h = none_in p q x found xs (q x) refl none (any_found p q xs found) h

user_there : (mount user : List ℕ) (seating : Seating) (seat : Seat) → seat_held seating ≡ Some seat → seat.mount ≡ mount → has_user user seat.pair ≡ true
    → is_user_at mount user seating ≡ true
user_there mount user (Sits old) seat h there his =
    let same : old ≡ seat = cc in
    let at : bytes_eq old.mount mount ≡ true = (bytes_eq-Decides old.mount mount).1 (ap (λ (x : Seat). x.mount) same ∙ there) in
    let sent : has_user user old.pair ≡ true = ap (λ (x : Seat). has_user user x.pair) same ∙ his in
    rw (at, sent) refl
user_there mount user (Finished rule last) seat h there his = cc

pub nobody_sits_as : (seats : List Listener) (id : ℕ) (mount user : List ℕ) → sits_there seats mount user ≡ false → SitsAs seats id mount user → ⊥
nobody_sits_as seats id mount user none sits =
    let listener = listener_seated seats id sits.0 sits.1 in
    let is : is_user_at mount user listener.0.seating ≡ true = user_there mount user listener.0.seating sits.0 listener.2 sits.2 sits.3 in
    let not = any_found (λ (x : Listener). is_user_at mount user x.seating) (is_listener id) seats listener.0 none listener.1 in
    cc
