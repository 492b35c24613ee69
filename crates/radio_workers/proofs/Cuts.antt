-- A list without its first element that passes.
use Rattle.std.proofs.Common.{◌≡◌, ◌<◌, ◌+◌, ℕ, zero, suc, Bool, true, false, not, List, [], ◌∷◌, length, get_or, filter, refl, ap, arith}
use Rattle.radio_workers.proofs.Words.{remove, position_or_len}

module _ {X : Type 0} (p : X → Bool) where
  -- without one that passes there is one fewer
  pub fewer : (xs : List X) (i : ℕ) (d : X) → i < length xs → p (get_or xs i d) ≡ true → length (filter p (remove xs i)) + 1 ≡ length (filter p xs)
  fewer [] i d low passes = omega (arith, low)
  fewer (x ∷ xs) zero d low passes = rw passes (omega arith)
  fewer (x ∷ xs) (suc i) d low passes = by_test (fewer xs i d (omega (arith, low)) passes) (p x) refl where
    by_test : length (filter p (remove xs i)) + 1 ≡ length (filter p xs) → (b : Bool) → p x ≡ b → length (filter p (remove (x ∷ xs) (suc i))) + 1 ≡ length (filter p (x ∷ xs))
    by_test rest true e = rw e (omega (arith, rest))
    by_test rest false e = rw e rest

  -- and the others are the same
  pub others : (xs : List X) (i : ℕ) (d : X) → i < length xs → p (get_or xs i d) ≡ true → filter (λ x. not (p x)) (remove xs i) ≡ filter (λ x. not (p x)) xs
  others [] i d low passes = absurd (omega (arith, low))
  others (x ∷ xs) zero d low passes = rw passes refl
  others (x ∷ xs) (suc i) d low passes = by_test (others xs i d (omega (arith, low)) passes) (p x) refl where
    by_test : filter (λ x. not (p x)) (remove xs i) ≡ filter (λ x. not (p x)) xs → (b : Bool) → p x ≡ b → filter (λ x. not (p x)) (remove (x ∷ xs) (suc i)) ≡ filter (λ x. not (p x)) (x ∷ xs)
    by_test rest true e = rw e rest
    by_test rest false e = rw e (ap (λ ys. x ∷ ys) rest)

  -- if some pass, one of them is the first
  pub first_inside : (xs : List X) → 0 < length (filter p xs) → position_or_len p xs < length xs
  first_inside [] some = omega (arith, some)
  first_inside (x ∷ xs) some = by_test (first_inside xs) (p x) refl some where
    by_test : (0 < length (filter p xs) → position_or_len p xs < length xs) → (b : Bool) → p x ≡ b → 0 < length (filter p (x ∷ xs)) → position_or_len p (x ∷ xs) < length (x ∷ xs)
    by_test rest true e some = rw e (omega arith)
    by_test rest false e some = let more : position_or_len p xs < length xs = rest (rw e at some) in rw e (omega (arith, more))
