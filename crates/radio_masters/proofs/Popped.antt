-- The last of some names goes.
use Rattle.std.proofs.Common.{◌≡◌, ◌<◌, ℕ, arith, sym, ◌∙◌, ap, List, [], ◌∷◌, ◌++◌, length, take, Option, None, Some, IfSome}
use Rattle.std.specs.Option.{IsSome}
use Rattle.std.proofs.lemmas.Bool.{false≢true}
use Rattle.radio_masters.proofs.Words.{take-append-le, length-append}

-- the front is the same without the last element, if that comes after the front
pub front_popped : {X : Type 0} (n : ℕ) (xs ys : List X) (last : Option X) → IsSome last → IfSome last (λ x. xs ≡ ys ++ x ∷ []) → n < length xs
    → take n ys ≡ take n xs
front_popped n xs ys None some e below = absurd (false≢true some)
front_popped n xs ys (Some x) some e below =
    sym (ap (take n) e ∙ take-append-le n ys (x ∷ []) (omega (arith, below, ap length e, length-append ys (x ∷ []))))
