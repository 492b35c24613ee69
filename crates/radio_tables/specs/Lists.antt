use Rattle.std.specs.Prelude.{◌≡◌, ◌⊎◌, Bool, if◌then◌else◌, List, [], ◌∷◌}
use Rattle.std.specs.declared.cmp.Ordering.{Ordering}
use Rattle.std.specs.Ordering.{match_ordering}

-- the list with its first element that passes p changed by f
abbrev pub update_first : {X : Type 0} → (X → Bool) → (X → X) → List X → List X
update_first p f [] = []
update_first p f (x ∷ xs) = (if p x then f x ∷ xs else x ∷ update_first p f xs)

-- the list with one more element: before the first that is greater, in the place of the first that is equal
abbrev pub placed : {X : Type 0} → (X → X → Ordering) → X → List X → List X
placed compare new [] = new ∷ []
placed compare new (x ∷ xs) = match_ordering (compare new x) (new ∷ x ∷ xs) (new ∷ xs) (x ∷ placed compare new xs)

-- P holds of each element
abbrev pub Each : {X : Type 0} → (X → Type 0) → List X → Type 0
Each P [] = Unit {0}
Each P (x ∷ xs) = P x × Each P xs

-- x is one of the elements
abbrev pub Has : {X : Type 0} → X → List X → Type 0
Has x [] = ⊥
Has x (y ∷ ys) = (x ≡ y) ⊎ Has x ys
