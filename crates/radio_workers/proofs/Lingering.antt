-- What is left once the oldest connection that lingers was closed.
use Rattle.std.proofs.Common.{◌≡◌, ◌<◌, ◌+◌, ℕ, Bool, true, false, not, Option, None, Some, List, [], ◌∷◌, length, filter, nat_lt, refl, arith, if◌then◌else◌}
use Rattle.radio_workers.proofs.Words.{position, position_or_len, nat_tests, Connection, lingers, without_at, without_first, without_oldest}
use Rattle.std.proofs.lemmas.Grind.{common_steps}
use Rattle.std.proofs.lemmas.List.Quantifiers.{position-Some}
use Rattle.radio_workers.proofs.Cuts.{fewer, others, first_inside}

pub one_fewer : (xs : List Connection) → 0 < length (filter lingers xs) → length (filter lingers (without_first xs)) + 1 ≡ length (filter lingers xs)
one_fewer [] some = omega (arith, some)
one_fewer (x ∷ xs) some = by_place (position lingers (x ∷ xs)) refl where
  by_place : (o : Option ℕ) → position lingers (x ∷ xs) ≡ o → length (filter lingers (without_at o (x ∷ xs))) + 1 ≡ length (filter lingers (x ∷ xs))
  by_place None e = let inside : position_or_len lingers (x ∷ xs) < length (x ∷ xs) = first_inside lingers (x ∷ xs) some in absurd (grind (arith, nat_tests, common_steps, e, inside))
  by_place (Some i) e = let at = position-Some lingers (x ∷ xs) i x e in fewer lingers (x ∷ xs) i x at.0 at.1

pub others_kept : (xs : List Connection) → filter (λ conn. not (lingers conn)) (without_first xs) ≡ filter (λ conn. not (lingers conn)) xs
others_kept [] = refl
others_kept (x ∷ xs) = by_place (position lingers (x ∷ xs)) refl where
  by_place : (o : Option ℕ) → position lingers (x ∷ xs) ≡ o → filter (λ conn. not (lingers conn)) (without_at o (x ∷ xs)) ≡ filter (λ conn. not (lingers conn)) (x ∷ xs)
  by_place None e = refl
  by_place (Some i) e = let at = position-Some lingers (x ∷ xs) i x e in others lingers (x ∷ xs) i x at.0 at.1

module _ (sources conns : List Connection) where
  abbrev both : Bool → List Connection × List Connection
  both b = if b then (sources, without_first conns) else (without_first sources, conns)

  pub one_of_both : 0 < length (filter lingers sources) + length (filter lingers conns)
      → length (filter lingers (without_oldest sources conns).0) + length (filter lingers (without_oldest sources conns).1) + 1 ≡ length (filter lingers sources) + length (filter lingers conns)
  one_of_both some = by_test (nat_lt 0 (length (filter lingers conns))) refl where
    by_test : (b : Bool) → nat_lt 0 (length (filter lingers conns)) ≡ b → length (filter lingers (both b).0) + length (filter lingers (both b).1) + 1 ≡ length (filter lingers sources) + length (filter lingers conns)
    by_test true e = let some : 0 < length (filter lingers conns) = grind (arith, nat_tests, e) in omega (arith, one_fewer conns some)
    by_test false e =
        let none : length (filter lingers conns) ≡ 0 = grind (arith, nat_tests, e) in
        let some : 0 < length (filter lingers sources) = omega (arith, none, some) in
        omega (arith, none, one_fewer sources some)

  pub sources_stay : 0 < length (filter lingers conns) → (without_oldest sources conns).0 ≡ sources
  sources_stay some = by_test (nat_lt 0 (length (filter lingers conns))) refl where
    by_test : (b : Bool) → nat_lt 0 (length (filter lingers conns)) ≡ b → (both b).0 ≡ sources
    by_test true e = refl
    by_test false e = absurd (grind (arith, nat_tests, e, some))

  pub both_kept : (filter (λ conn. not (lingers conn)) (without_oldest sources conns).0 ≡ filter (λ conn. not (lingers conn)) sources)
      × (filter (λ conn. not (lingers conn)) (without_oldest sources conns).1 ≡ filter (λ conn. not (lingers conn)) conns)
  both_kept = by_test (nat_lt 0 (length (filter lingers conns))) where
    by_test : (b : Bool) → (filter (λ conn. not (lingers conn)) (both b).0 ≡ filter (λ conn. not (lingers conn)) sources) × (filter (λ conn. not (lingers conn)) (both b).1 ≡ filter (λ conn. not (lingers conn)) conns)
    by_test true = (refl, others_kept conns)
    by_test false = (others_kept sources, refl)
