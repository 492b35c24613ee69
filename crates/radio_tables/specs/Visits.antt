-- what becomes of a list, of which one element is visited in its place
use Rattle.std.specs.Prelude.{◌≡◌, Bool, List, Option, None, Some, find}
use Rattle.radio_tables.specs.Lists.{update_first}

-- the element that was found is visited, and another takes its place; if none was found, nothing happens
abbrev pub FoundIsVisited : {V G X A : Type 0} → (V → G → X → A → V → X → Type 0) → (X → Bool) → V → G → List X → Option A → V → List X → Option X → Type 0
FoundIsVisited Visits p visitor given xs answer visitor' xs' None = (answer ≡ None) × (visitor' ≡ visitor) × (xs' ≡ xs)
FoundIsVisited {X = X} {A = A} Visits p visitor given xs answer visitor' xs' (Some x) =
    (a : A) × (x' : X) × (answer ≡ Some a) × (xs' ≡ update_first p (λ _. x') xs) × Visits visitor given x a visitor' x'

-- the first element that passes p is visited, if there is one
abbrev pub IsVisited : {V G X A : Type 0} → (V → G → X → A → V → X → Type 0) → (X → Bool) → V → G → List X → Option A → V → List X → Type 0
IsVisited Visits p visitor given xs answer visitor' xs' = FoundIsVisited Visits p visitor given xs answer visitor' xs' (find p xs)
