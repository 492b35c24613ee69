use Rattle.std.proofs.Common.{ℕ, ◌<◌}
use Rattle.radio_hall.proofs.Words.{Rises, serials_in}
use Rattle.radio_hall.proofs.passes.fall_in.Given as goal

abbrev pub invariant-loop-list : goal.invariant-loop-list
invariant-loop-list l = (list : ℕ) → list < l.list → Rises 0 (serials_in list l.receipts)
