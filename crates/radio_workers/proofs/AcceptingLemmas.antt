-- How many tries have failed in a row.
use Rattle.std.proofs.Common.{◌≡◌, ℕ, min, List, [], ◌∷◌, refl, arith}
use Rattle.radio_workers.specs.declared.accepts.AcceptTry.{AcceptTry}
use Rattle.radio_workers.specs.declared.accepts.AcceptTry.TheVariants.{Accepted, Failed, NoDescriptor}
use Rattle.radio_workers.specs.IntakeLaws.{accepting_after, failed_in_a_row}

-- no more than a hundred are counted
pub counted : (tries : List (ℕ × AcceptTry)) → (accepting_after tries).failed ≡ min 100 (failed_in_a_row tries)
counted [] = refl
counted ((ms, Accepted) ∷ earlier) = refl
counted ((ms, Failed) ∷ earlier) = omega (arith, counted earlier)
counted ((ms, NoDescriptor) ∷ earlier) = counted earlier
