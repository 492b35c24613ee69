-- listeners stay in the order of their numbers
use Rattle.std.proofs.Common.{◌≡◌, Bool, ℕ, ◌<◌, List, [], ◌∷◌, refl, sym, subst, arith}
use Rattle.radio_parts_mount.proofs.Words.{map, AllByRecursion, IsStrictlySortedBy, nat_cmp, Less, nat_tests, Rule, Each, Listener, Seat, is_listener, seated, advanced, finished_if, loses, with_seat, with_place}
use Rattle.radio_parts_mount.proofs.Words.{with_end, with_ended, without_listener, AreByNumber}
use Rattle.radio_parts_mount.proofs.NumberLists.{IsRising, placed_rising, kept_rising, numbers_updated, numbers_mapped, numbers_placed, numbers_without}

abbrev number : Listener → ℕ
number listener = listener.id

above_less : (x y : ℕ) → x < y → nat_cmp x y ≡ Less
above_less x y h = grind (arith, nat_tests)

less_above : (x y : ℕ) → nat_cmp x y ≡ Less → x < y
less_above x y e = grind (arith, nat_tests)

all_less : (x : ℕ) (ys : List ℕ) → Each (λ y. x < y) ys → AllByRecursion (λ y. nat_cmp x y ≡ Less) ys
all_less x [] h = tt
all_less x (y ∷ ys) h = (above_less x y h.0, all_less x ys h.1)

each_above : (x : ℕ) (ys : List ℕ) → AllByRecursion (λ y. nat_cmp x y ≡ Less) ys → Each (λ y. x < y) ys
each_above x [] h = tt
each_above x (y ∷ ys) h = (less_above x y h.0, each_above x ys h.1)

pub in_order : (xs : List ℕ) → IsRising xs → IsStrictlySortedBy nat_cmp xs
unfolding IsStrictlySortedBy
in_order [] rising = tt
in_order (x ∷ xs) rising = (all_less x xs rising.0, in_order xs rising.1)

pub rises : (xs : List ℕ) → IsStrictlySortedBy nat_cmp xs → IsRising xs
unfolding IsStrictlySortedBy
rises [] order = tt
rises (x ∷ xs) order = (each_above x xs order.0, rises xs order.1)

-- the same listeners stand in the same order
pub same_order : (seats later : List Listener) → map number later ≡ map number seats → AreByNumber seats → AreByNumber later
same_order seats later same order = subst (IsStrictlySortedBy nat_cmp) (sym same) order

module _ (seats : List Listener) (order : AreByNumber seats) where
  pub order_ended : (p : Seat → Bool) (rule : Rule) → AreByNumber (with_ended seats p rule)
  order_ended p rule = same_order seats (with_ended seats p rule) (numbers_mapped number (finished_if p rule) (λ x. refl) seats) order

  pub order_lost : (id : ℕ) (rule : Rule) → AreByNumber (with_end seats id rule)
  order_lost id rule = same_order seats (with_end seats id rule) (numbers_updated number (is_listener id) (loses rule) (λ x. refl) seats) order

  pub order_heard : (id place : ℕ) → AreByNumber (with_place seats id place)
  order_heard id place = same_order seats (with_place seats id place) (numbers_updated number (is_listener id) (advanced place) (λ x. refl) seats) order

  pub order_left : (id : ℕ) → AreByNumber (without_listener seats id)
  order_left id =
      subst (IsStrictlySortedBy nat_cmp) (sym (numbers_without number id seats)) (in_order _ (kept_rising id (map number seats) (rises (map number seats) order)))

  pub order_seated : (id : ℕ) (seat : Seat) → AreByNumber (with_seat seats id seat)
  order_seated id seat =
      subst (IsStrictlySortedBy nat_cmp) (sym (numbers_placed number (seated id seat) seats))
      (in_order _ (placed_rising id (map number seats) (rises (map number seats) order)))
