-- what becomes of a listener is what its turn has in store for it
use Rattle.std.proofs.Common.{◌≡◌, Bool, true, false, ℕ, ◌==◌, Option, Some, None, List, [], ◌∷◌, refl, ap, sym, subst, ◌∙◌, arith}
use Rattle.radio_fallback.proofs.Words.{find, filter, nat_lt, AllByRecursion, IsStrictlySortedBy, option_map, nat_cmp, Less, eqb-true, nat_tests, sorted_head, sorted_tail, find_later, found_passes, Listener, is_listener}
use Rattle.radio_fallback.proofs.Words.{listener_of, moved, loses, AreByNumber, map_found, Move, MoveEffect, Stays, GoesTo, IsOut, Sight, Carry, turn_of, carry_after_move, turns, numbers_of, at_first, carried}
use Rattle.radio_fallback.proofs.Words.{at_his_turn, fared}
use Rattle.radio_fallback.proofs.FaresLemmas.{beside, found_changed}

-- its turn changes it, and another's does not
his_own : (sight : Sight) (id : ℕ) (carry : Carry) (turn : MoveEffect)
    → listener_of (carry_after_move sight id carry turn).seats id ≡ option_map (fared sight turn) (listener_of carry.seats id)
his_own sight id carry Stays = same (listener_of carry.seats id) where
  same : (listener : Option Listener) → listener ≡ option_map (λ (x : Listener). x) listener
  same None = refl
  same (Some listener) = refl
his_own sight id carry (GoesTo to) =
    found_changed (is_listener id) (moved to (sight.stream_end to).session (sight.stream_end to).place) (λ x. refl) carry.seats
his_own sight id carry (IsOut rule) = found_changed (is_listener id) (loses rule) (λ x. refl) carry.seats

pub others_turn : (sight : Sight) (him id : ℕ) (carry : Carry) (turn : MoveEffect) → (him == id) ≡ false
    → listener_of (carry_after_move sight him carry turn).seats id ≡ listener_of carry.seats id
others_turn sight him id carry Stays apart = refl
others_turn sight him id carry (GoesTo to) apart =
    beside (moved to (sight.stream_end to).session (sight.stream_end to).place) (λ x. refl) carry.seats him id apart
others_turn sight him id carry (IsOut rule) apart = beside (loses rule) (λ x. refl) carry.seats him id apart

above_apart : (a b : ℕ) → nat_cmp a b ≡ Less → (b == a) ≡ false
above_apart a b less = grind (arith, nat_tests)

above_later : (a b : ℕ) → nat_cmp a b ≡ Less → nat_lt b a ≡ false
above_later a b less = grind (arith, nat_tests)

below_first : (a b : ℕ) → nat_cmp a b ≡ Less → nat_lt a b ≡ true
below_first a b less = grind (arith, nat_tests)

not_below_itself : (a : ℕ) → nat_lt a a ≡ false
not_below_itself a = grind (arith, nat_tests)

module _ (sight : Sight) (move : Move) (id : ℕ) where
  abbrev next : Carry → ℕ → Carry
  next carry n = carry_after_move sight n carry (turn_of sight move carry.seats n)

  untouched : (ns : List ℕ) (carry : Carry) → AllByRecursion (λ m. nat_cmp id m ≡ Less) ns
      → listener_of (turns sight move ns carry).seats id ≡ listener_of carry.seats id
  untouched [] carry all = refl
  untouched (n ∷ ns) carry all =
      untouched ns (next carry n) all.1 ∙ others_turn sight n id carry (turn_of sight move carry.seats n) (above_apart id n all.0)

  none_before : (ns : List ℕ) → AllByRecursion (λ m. nat_cmp id m ≡ Less) ns → filter (λ other. nat_lt other id) ns ≡ []
  none_before [] all = refl
  none_before (n ∷ ns) all = rw (above_later id n all.0) (none_before ns all.1)

  comes_later_at : (n m : ℕ) (ns : List ℕ) (b : Bool) → (m == id) ≡ b → nat_cmp n m ≡ Less → (find (λ k. k == id) ns ≡ Some id → nat_cmp n id ≡ Less)
      → find (λ k. k == id) (m ∷ ns) ≡ Some id → nat_cmp n id ≡ Less
  comes_later_at n m ns true e less later h = ap (nat_cmp n) (sym (eqb-true m id e)) ∙ less
  comes_later_at n m ns false e less later h = later (sym (find_later (λ k. k == id) m ns e) ∙ h)

  comes_later : (n : ℕ) (ns : List ℕ) → AllByRecursion (λ m. nat_cmp n m ≡ Less) ns → find (λ k. k == id) ns ≡ Some id → nat_cmp n id ≡ Less
  comes_later n [] all h = cc
  comes_later n (m ∷ ns) all h = comes_later_at n m ns (m == id) refl all.0 (comes_later n ns all.1) h

  abbrev Fared : List ℕ → Carry → Type 0
  Fared ns carry = listener_of (turns sight move ns carry).seats id
      ≡ option_map (fared sight (turn_of sight move (turns sight move (filter (λ other. nat_lt other id) ns) carry).seats id)) (listener_of carry.seats id)

  at_his : (ns : List ℕ) (carry : Carry) → AllByRecursion (λ m. nat_cmp id m ≡ Less) ns → Fared (id ∷ ns) carry
  at_his ns carry all =
      let nobody : filter (λ other. nat_lt other id) (id ∷ ns) ≡ [] = rw (not_below_itself id) (none_before ns all) in
      untouched ns (next carry id) all ∙ his_own sight id carry (turn_of sight move carry.seats id)
      ∙ sym (ap (λ before. option_map (fared sight (turn_of sight move (turns sight move before carry).seats id)) (listener_of carry.seats id)) nobody)

  before_his : (n : ℕ) (ns : List ℕ) (carry : Carry) → nat_cmp n id ≡ Less → (n == id) ≡ false → Fared ns (next carry n) → Fared (n ∷ ns) carry
  before_his n ns carry less apart later =
      let first : filter (λ other. nat_lt other id) (n ∷ ns) ≡ n ∷ filter (λ other. nat_lt other id) ns = rw (below_first n id less) refl in
      later
      ∙ ap (option_map (fared sight (turn_of sight move (turns sight move (filter (λ other. nat_lt other id) ns) (next carry n)).seats id)))
      (others_turn sight n id carry (turn_of sight move carry.seats n) apart)
      ∙ sym (ap (λ before. option_map (fared sight (turn_of sight move (turns sight move before carry).seats id)) (listener_of carry.seats id)) first)

  fares_at : (n : ℕ) (ns : List ℕ) (carry : Carry) (b : Bool) → (n == id) ≡ b → AllByRecursion (λ m. nat_cmp n m ≡ Less) ns
      → (find (λ k. k == id) ns ≡ Some id → Fared ns (next carry n)) → find (λ k. k == id) (n ∷ ns) ≡ Some id → Fared (n ∷ ns) carry
  fares_at n ns carry true e all later h =
      let same : n ≡ id = eqb-true n id e in
      let above : AllByRecursion (λ m. nat_cmp id m ≡ Less) ns = subst (λ (k : ℕ). AllByRecursion (λ m. nat_cmp k m ≡ Less) ns) same all in
      subst (λ (k : ℕ). Fared (k ∷ ns) carry) (sym same) (at_his ns carry above)
  fares_at n ns carry false e all later h =
      let behind : find (λ k. k == id) ns ≡ Some id = sym (find_later (λ k. k == id) n ns e) ∙ h in
      before_his n ns carry (comes_later n ns all behind) e (later behind)

  fares : (ns : List ℕ) (carry : Carry) → IsStrictlySortedBy nat_cmp ns → find (λ k. k == id) ns ≡ Some id → Fared ns carry
  fares [] carry rising h = cc
  fares (n ∷ ns) carry rising h =
      fares_at n ns carry (n == id) refl (sorted_head nat_cmp n ns rising) (fares ns (next carry n) (sorted_tail nat_cmp n ns rising)) h

pub by_his_turn : (sight : Sight) (move : Move) (seats : List Listener) (id : ℕ) (listener : Listener) → AreByNumber seats → listener_of seats id ≡ Some listener
    → listener_of (carried sight move seats).seats id ≡ Some (fared sight (turn_of sight move (at_his_turn sight move seats id) id) listener)
by_his_turn sight move seats id listener rising has =
    let his : listener.id ≡ id = eqb-true listener.id id (found_passes (is_listener id) seats listener has) in
    let found : find (λ k. k == id) (numbers_of seats) ≡ Some id
    = map_found (λ (x : Listener). x.id) (is_listener id) (λ k. k == id) (λ x. refl) seats ∙ ap (option_map (λ (x : Listener). x.id)) has ∙ ap (λ (k : ℕ). Some k) his in
    fares sight move id (numbers_of seats) (at_first seats) rising found
    ∙ ap (option_map (fared sight (turn_of sight move (at_his_turn sight move seats id) id))) has
