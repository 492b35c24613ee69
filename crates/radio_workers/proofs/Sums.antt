-- How weights and totals add up.
use Rattle.std.proofs.Common.{◌≡◌, ℕ, zero, suc, ◌+◌, List, [], ◌∷◌, ◌++◌, length, set, sym, refl, ap, arith}
use mathlib.Core.Option.{some, some-injective, some-ne-none}
use lib.ListN.{get_elem?}
use Rattle.radio_workers.proofs.Words.{IsTakenOrLeft, weigh, sum_of}

module _ {L : Type 0} where
  pub weigh-append : (weight : L → ℕ) (xs ys : List L) → weigh weight (xs ++ ys) ≡ weigh weight xs + weigh weight ys
  weigh-append weight [] ys = omega arith
  weigh-append weight (x ∷ xs) ys = omega (arith, weigh-append weight xs ys)

  -- if each line weighs 1, the weight is the number of lines
  weigh-ones : (xs : List L) → weigh (λ _. 1) xs ≡ length xs
  weigh-ones [] = refl
  weigh-ones (x ∷ xs) = omega (arith, weigh-ones xs)

  pub lengths-add_up : (put taken left : List L) → IsTakenOrLeft put taken left → length put ≡ length taken + length left
  lengths-add_up put taken left h = let all = h (λ _. 1) in omega (arith, weigh-ones put, weigh-ones taken, weigh-ones left)

module _ {A : Type 0} (f : A → ℕ) where
  pub total-append : (xs : List A) (x : A) → sum_of f (xs ++ x ∷ []) ≡ sum_of f xs + f x
  total-append [] x = omega arith
  total-append (y ∷ xs) x = omega (arith, total-append xs x)

  -- with another element in the place of one
  pub total-set : (xs : List A) (i : ℕ) (x y : A) → get_elem? xs i ≡ some x → sum_of f (set xs i y) + f x ≡ sum_of f xs + f y
  total-set [] i x y at = absurd (some-ne-none x (sym at))
  total-set (z ∷ xs) zero x y at = let same = ap f (some-injective z x at) in omega arith
  total-set (z ∷ xs) (suc i) x y at = omega (arith, total-set xs i x y at)
