use Rattle.std.proofs.Common.{◌≡◌, ◌<◌, ◌≤◌, ◌+◌, ℕ, Bool, true, false, List, length, nat_lt, refl, ap, arith}
use Rattle.std.proofs.lemmas.Bool.Decides.{nat_tests}
use Rattle.radio_pullers.proofs.Words.{length-take, IsChosen}
use Rattle.radio_masters.specs.declared.turns.WaitingRelay.{WaitingRelay}
use Rattle.radio_tries.specs.Tries.{free_places}
use Rattle.radio_pullers.proofs.laws.relays_fit_the_sources.Goals as goal

-- no more begin than there are free places
few : (ms sources running kept : ℕ) (waiting chosen : List WaitingRelay) → IsChosen ms sources running kept waiting chosen → length chosen ≤ free_places sources running kept
few ms sources running kept waiting chosen is = by_test (nat_lt 0 (free_places sources running kept)) refl where
  by_test : (b : Bool) → nat_lt 0 (free_places sources running kept) ≡ b → length chosen ≤ free_places sources running kept
  by_test true e =
      let some : 0 < free_places sources running kept = grind (arith, nat_tests, e) in
      let turn = is.turn some in
      omega (arith, ap length turn.first, length-take (free_places sources running kept) turn.queue)
  by_test false e =
      let none : free_places sources running kept ≡ 0 = grind (arith, nat_tests, e) in
      omega (arith, ap length (is.full none))

pub returns : goal.returns
returns c = record {
  fit = λ ms sources running kept waiting chosen is room. omega (arith, room, few ms sources running kept waiting chosen is);
  full = λ ms sources running kept waiting chosen is room. omega (arith, room, few ms sources running kept waiting chosen is);
}
