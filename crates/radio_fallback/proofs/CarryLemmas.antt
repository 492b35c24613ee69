-- the turns of a carry, one after the other
use Rattle.std.proofs.Common.{◌≡◌, Bool, true, false, ℕ, ◌+◌, ◌<◌, ◌≤◌, ◌^◌, Option, Some, None, List, [], ◌∷◌, length, refl, ap, sym, ◌∙◌, arith}
use Rattle.radio_fallback.proofs.Words.{find, filter, if◌then◌else◌, AllByRecursion, IsStrictlySortedBy, nat_cmp, is_lt, Less, nat_tests, sorted_head, sorted_tail, update_first, is_past, find_here, find_later, Listener}
use Rattle.radio_fallback.proofs.Words.{is_listener, moved, loses, next_number, map_found, Carried, Move, MoveEffect, Stays, GoesTo, IsOut, Sight, Carry, turn_of, carry_after_move, turns, numbers_of, numbers_past}
use Rattle.radio_fallback.proofs.Words.{at_first, carried}
use Rattle.std.proofs.lemmas.List.{length-map}

-- rising numbers, and those of them that come past one of them
above_passes : (n m : ℕ) → nat_cmp n m ≡ Less → is_past nat_cmp (Some n) m ≡ true
above_passes n m less = ap is_lt less

past_above : (last : Option ℕ) (n m : ℕ) → is_past nat_cmp last n ≡ true → nat_cmp n m ≡ Less → is_past nat_cmp last m ≡ true
past_above None n m past less = refl
past_above (Some k) n m past less = grind (arith, nat_tests)

not_past_itself : (n : ℕ) → is_past nat_cmp (Some n) n ≡ false
not_past_itself n = grind (arith, nat_tests)

not_past_above : (n m : ℕ) → nat_cmp n m ≡ Less → is_past nat_cmp (Some m) n ≡ false
not_past_above n m less = grind (arith, nat_tests)

all_past : (last : Option ℕ) (n : ℕ) → is_past nat_cmp last n ≡ true → (ns : List ℕ) → AllByRecursion (λ m. nat_cmp n m ≡ Less) ns
    → filter (is_past nat_cmp last) ns ≡ ns
all_past last n past [] all = refl
all_past last n past (m ∷ ns) all = rw (past_above last n m past all.0) (ap (λ ms. m ∷ ms) (all_past last n past ns all.1))

all_above : (n : ℕ) (ns : List ℕ) → AllByRecursion (λ m. nat_cmp n m ≡ Less) ns → filter (is_past nat_cmp (Some n)) ns ≡ ns
all_above n [] all = refl
all_above n (m ∷ ns) all = rw (above_passes n m all.0) (ap (λ ms. m ∷ ms) (all_above n ns all.1))

found_above_at : (p : ℕ → Bool) (n id m : ℕ) (ns : List ℕ) (b : Bool) → p m ≡ b → nat_cmp n m ≡ Less → (find p ns ≡ Some id → nat_cmp n id ≡ Less)
    → find p (m ∷ ns) ≡ Some id → nat_cmp n id ≡ Less
found_above_at p n id m ns true e less later h =
    let here : find p (m ∷ ns) ≡ Some m = find_here p m ns e in let same : m ≡ id = cc in ap (nat_cmp n) (sym same) ∙ less
found_above_at p n id m ns false e less later h = later (sym (find_later p m ns e) ∙ h)

found_above : (p : ℕ → Bool) (n id : ℕ) (ns : List ℕ) → AllByRecursion (λ m. nat_cmp n m ≡ Less) ns → find p ns ≡ Some id → nat_cmp n id ≡ Less
found_above p n id [] all h = cc
found_above p n id (m ∷ ns) all h = found_above_at p n id m ns (p m) refl all.0 (found_above p n id ns all.1) h

splits_at : (last : Option ℕ) (n id : ℕ) (ns : List ℕ) (b : Bool) → is_past nat_cmp last n ≡ b → AllByRecursion (λ m. nat_cmp n m ≡ Less) ns
    → (find (is_past nat_cmp last) ns ≡ Some id → filter (is_past nat_cmp last) ns ≡ id ∷ filter (is_past nat_cmp (Some id)) ns)
    → find (is_past nat_cmp last) (n ∷ ns) ≡ Some id
    → filter (is_past nat_cmp last) (n ∷ ns) ≡ id ∷ filter (is_past nat_cmp (Some id)) (n ∷ ns)
splits_at last n id ns true e all later h =
    let here : find (is_past nat_cmp last) (n ∷ ns) ≡ Some n = find_here (is_past nat_cmp last) n ns e in
    let same : n ≡ id = cc in
    let whole : filter (is_past nat_cmp last) (n ∷ ns) ≡ n ∷ ns = rw e (ap (λ ms. n ∷ ms) (all_past last n e ns all)) in
    let rest : filter (is_past nat_cmp (Some n)) (n ∷ ns) ≡ ns = rw (not_past_itself n) (all_above n ns all) in
    whole ∙ ap (λ ms. n ∷ ms) (sym rest) ∙ ap (λ k. k ∷ filter (is_past nat_cmp (Some k)) (n ∷ ns)) same
splits_at last n id ns false e all later h =
    let behind : find (is_past nat_cmp last) ns ≡ Some id = sym (find_later (is_past nat_cmp last) n ns e) ∙ h in
    let above : nat_cmp n id ≡ Less = found_above (is_past nat_cmp last) n id ns all behind in
    let his : is_past nat_cmp (Some id) n ≡ false = not_past_above n id above in
    rw (e, his) (later behind)

splits : (last : Option ℕ) (id : ℕ) (ns : List ℕ) → IsStrictlySortedBy nat_cmp ns → find (is_past nat_cmp last) ns ≡ Some id
    → filter (is_past nat_cmp last) ns ≡ id ∷ filter (is_past nat_cmp (Some id)) ns
splits last id [] rising h = cc
splits last id (n ∷ ns) rising h =
    splits_at last n id ns (is_past nat_cmp last n) refl (sorted_head nat_cmp n ns rising) (splits last id ns (sorted_tail nat_cmp n ns rising)) h

none_at : (last : Option ℕ) (n : ℕ) (ns : List ℕ) (b : Bool) → is_past nat_cmp last n ≡ b
    → (find (is_past nat_cmp last) ns ≡ None → filter (is_past nat_cmp last) ns ≡ [])
    → find (is_past nat_cmp last) (n ∷ ns) ≡ None → filter (is_past nat_cmp last) (n ∷ ns) ≡ []
none_at last n ns true e later h = let here : find (is_past nat_cmp last) (n ∷ ns) ≡ Some n = find_here (is_past nat_cmp last) n ns e in cc
none_at last n ns false e later h = rw e (later (sym (find_later (is_past nat_cmp last) n ns e) ∙ h))

none_left : (last : Option ℕ) (ns : List ℕ) → find (is_past nat_cmp last) ns ≡ None → filter (is_past nat_cmp last) ns ≡ []
none_left last [] h = refl
none_left last (n ∷ ns) h = none_at last n ns (is_past nat_cmp last n) refl (none_left last ns) h

-- the next one is the first of those whose turn is to come
found_number : (seats : List Listener) (last : Option ℕ) → find (is_past nat_cmp last) (numbers_of seats) ≡ next_number seats last
found_number seats last =
    map_found (λ (listener : Listener). listener.id) (λ listener. is_past nat_cmp last listener.id) (is_past nat_cmp last) (λ listener. refl) seats

pub next_has_his_turn : (seats : List Listener) (last : Option ℕ) (id : ℕ) → IsStrictlySortedBy nat_cmp (numbers_of seats) → Some id ≡ next_number seats last
    → numbers_past last seats ≡ id ∷ numbers_past (Some id) seats
next_has_his_turn seats last id rising next = splits last id (numbers_of seats) rising (found_number seats last ∙ sym next)

pub nobody_is_next : (seats : List Listener) (last : Option ℕ) → None ≡ next_number seats last → numbers_past last seats ≡ []
nobody_is_next seats last next = none_left last (numbers_of seats) (found_number seats last ∙ sym next)

pub everybody_is_past : (ns : List ℕ) → filter (is_past nat_cmp None) ns ≡ ns
everybody_is_past [] = refl
everybody_is_past (n ∷ ns) = ap (λ ms. n ∷ ms) (everybody_is_past ns)

-- a turn leaves the numbers as they are
numbers_at : (p : Listener → Bool) (f : Listener → Listener) (x : Listener) (xs : List Listener) (b : Bool) → (f x).id ≡ x.id
    → numbers_of (update_first p f xs) ≡ numbers_of xs → numbers_of (if b then f x ∷ xs else x ∷ update_first p f xs) ≡ numbers_of (x ∷ xs)
numbers_at p f x xs true same later = ap (λ n. n ∷ numbers_of xs) same
numbers_at p f x xs false same later = ap (λ ns. x.id ∷ ns) later

numbers_stay : (p : Listener → Bool) (f : Listener → Listener) → ((x : Listener) → (f x).id ≡ x.id) → (xs : List Listener)
    → numbers_of (update_first p f xs) ≡ numbers_of xs
numbers_stay p f same [] = refl
numbers_stay p f same (x ∷ xs) = numbers_at p f x xs (p x) (same x) (numbers_stay p f same xs)

pub same_numbers : (sight : Sight) (id : ℕ) (carry : Carry) (turn : MoveEffect) → numbers_of (carry_after_move sight id carry turn).seats ≡ numbers_of carry.seats
same_numbers sight id carry Stays = refl
same_numbers sight id carry (GoesTo mount) =
    numbers_stay (is_listener id) (moved mount (sight.stream_end mount).session (sight.stream_end mount).place) (λ x. refl) carry.seats
same_numbers sight id carry (IsOut rule) = numbers_stay (is_listener id) (loses rule) (λ x. refl) carry.seats

-- and counts it once at the most
pub one_more : (sight : Sight) (id : ℕ) (carry : Carry) (turn : MoveEffect)
    → (carry_after_move sight id carry turn).counts.moved + (carry_after_move sight id carry turn).counts.ended ≤ carry.counts.moved + carry.counts.ended + 1
one_more sight id carry Stays = omega arith
one_more sight id carry (GoesTo mount) = omega arith
one_more sight id carry (IsOut rule) = omega arith

-- everybody's turn is still to come at first
pub begins : (sight : Sight) (move : Move) (seats : List Listener) → turns sight move (numbers_past None seats) (at_first seats) ≡ carried sight move seats
begins sight move seats = ap (λ ns. turns sight move ns (at_first seats)) (everybody_is_past (numbers_of seats))

pub as_many : (seats : List Listener) → length (numbers_past None seats) ≡ length seats
as_many seats = ap length (everybody_is_past (numbers_of seats)) ∙ length-map seats (λ (listener : Listener). listener.id)

-- one turn, in the middle of a carry
module _ (sight : Sight) (move : Move) (last : Option ℕ) (id : ℕ) (seats : List Listener) (counts : Carried) (rising : IsStrictlySortedBy nat_cmp (numbers_of seats))
    (next : Some id ≡ next_number seats last) where
  abbrev pub before_it : Carry
  before_it = record { seats = seats; counts = counts }

  abbrev pub after_it : Carry
  after_it = carry_after_move sight id before_it (turn_of sight move seats id)

  those_left : numbers_past (Some id) after_it.seats ≡ numbers_past (Some id) seats
  those_left = ap (filter (is_past nat_cmp (Some id))) (same_numbers sight id before_it (turn_of sight move seats id))

  goes_on_with : turns sight move (numbers_past (Some id) after_it.seats) after_it ≡ turns sight move (numbers_past last seats) before_it
  goes_on_with =
      ap (λ ns. turns sight move ns after_it) those_left
      ∙ sym (ap (λ ns. turns sight move ns before_it) (next_has_his_turn seats last id rising next))

  module _ (later : List Listener) (counted : Carried) (is_later : later ≡ after_it.seats) (is_counted : counted ≡ after_it.counts) where
    pub goes_on : turns sight move (numbers_past (Some id) later) (record { seats = later; counts = counted })
        ≡ turns sight move (numbers_past last seats) before_it
    goes_on =
        ap (λ (ls : List Listener). turns sight move (numbers_past (Some id) ls) (record { seats = ls; counts = counted })) is_later
        ∙ ap (λ (c : Carried). turns sight move (numbers_past (Some id) after_it.seats) (record { seats = after_it.seats; counts = c })) is_counted
        ∙ goes_on_with

    one_less : length (numbers_past (Some id) later) + 1 ≡ length (numbers_past last seats)
    one_less =
        let here = ap length (next_has_his_turn seats last id rising next) in
        let rest : length (numbers_past (Some id) later) ≡ length (numbers_past (Some id) seats)
        = ap (λ (ls : List Listener). length (numbers_past (Some id) ls)) is_later ∙ ap length those_left in
        omega (arith, here, rest)

    pub fewer_left : length (numbers_past (Some id) later) < length (numbers_past last seats)
    fewer_left = let less = one_less in omega (arith, less)

    pub all_counted : (most : ℕ) → counts.moved + counts.ended + length (numbers_past last seats) ≤ most
        → counted.moved + counted.ended + length (numbers_past (Some id) later) ≤ most
    all_counted most h =
        let less = one_less in
        let more = one_more sight id before_it (turn_of sight move seats id) in
        let moved = ap (λ (c : Carried). c.moved) is_counted in
        let ended = ap (λ (c : Carried). c.ended) is_counted in
        omega (arith, less, more, moved, ended, h)

  pub has_room : (many : ℕ) → counts.moved + counts.ended + length (numbers_past last seats) ≤ many → many < 2 ^ 64 → counts.moved + counts.ended + 1 < 2 ^ 64
  has_room many h fits = let here = ap length (next_has_his_turn seats last id rising next) in omega (arith, here, h, fits)
