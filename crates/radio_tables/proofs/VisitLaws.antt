-- what a visit says of the list in which it took place
use Rattle.std.proofs.Common.{◌≡◌, Bool, List, Option, None, Some, refl, subst}
use Rattle.std.specs.Prelude.{find}
use Rattle.radio_tables.specs.Lists.{update_first}
use Rattle.radio_tables.specs.Visits.{FoundIsVisited, IsVisited}

module _ {V G X A : Type 0} (Visits : V → G → X → A → V → X → Type 0) (p : X → Bool) (visitor : V) (given : G) (xs : List X) (visitor' : V) (xs' : List X) where
  -- where nothing was answered, none was found
  pub not_visited : IsVisited Visits p visitor given xs None visitor' xs' → (find p xs ≡ None) × (visitor' ≡ visitor) × (xs' ≡ xs)
  not_visited h = by_found (find p xs) refl h where
    by_found : (found : Option X) → find p xs ≡ found → FoundIsVisited Visits p visitor given xs None visitor' xs' found
        → (find p xs ≡ None) × (visitor' ≡ visitor) × (xs' ≡ xs)
    by_found None e h = (e, h.1, h.2)
    by_found (Some x) e h = let none : None ≡ Some h.0 = h.2 in cc

  -- where something was answered, it was answered by the one that was found
  abbrev pub Answers : A → Type 0
  Answers a = (x : X) × (x' : X) × (find p xs ≡ Some x) × (xs' ≡ update_first p (λ _. x') xs) × Visits visitor given x a visitor' x'

  pub was_visited : (a : A) → IsVisited Visits p visitor given xs (Some a) visitor' xs' → Answers a
  was_visited a h = by_found (find p xs) refl h where
    by_found : (found : Option X) → find p xs ≡ found → FoundIsVisited Visits p visitor given xs (Some a) visitor' xs' found → Answers a
    by_found None e h = let none : Some a ≡ None = h.0 in cc
    by_found (Some x) e h =
        let answer : Some a ≡ Some h.0 = h.2 in
        let same : h.0 ≡ a = cc in
        (x, h.1, e, h.3, subst (λ (b : A). Visits visitor given x b visitor' h.1) same h.4)
