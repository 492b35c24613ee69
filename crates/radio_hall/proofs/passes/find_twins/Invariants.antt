use Rattle.std.proofs.Common.{◌≢◌, ℕ, ◌+◌, ◌<◌, get_or}
use Rattle.radio_hall.proofs.Words.{stamp}
use Rattle.radio_hall.proofs.passes.find_twins.Given as goal

abbrev pub invariant-loop-i : goal.invariant-loop-i
invariant-loop-i l = (k : ℕ) → k + 1 < l.i → get_or l.sorted k (stamp 0 0) ≢ get_or l.sorted (k + 1) (stamp 0 0)
