-- What holds of all of a list so far holds of all of it at its end.
use Rattle.std.proofs.Common.{ℕ, ◌≤◌, List, take, length, subst}
use Rattle.radio_merge.proofs.Words.{All, take_all}

pub All-whole : {X : Type 0} (P : X → Type 0) (xs : List X) (i : ℕ) → length xs ≤ i → All P (take i xs) → All P xs
All-whole {X = X} P xs i end each = subst (λ (ys : List X). All P ys) (take_all i xs end) each
