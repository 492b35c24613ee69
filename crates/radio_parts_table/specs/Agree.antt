-- Two lists that agree element by element.
use Rattle.std.specs.Prelude.{List, [], ◌∷◌}

-- each element of a list goes with that of the other at its place
abbrev pub AllAgree : {X : Type 0} → (X → X → Type 0) → List X → List X → Type 0
AllAgree R [] [] = Unit {0}
AllAgree R (x ∷ xs) (y ∷ ys) = R x y × AllAgree R xs ys
AllAgree R [] (y ∷ ys) = ⊥
AllAgree R (x ∷ xs) [] = ⊥
