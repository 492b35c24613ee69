use Rattle.std.proofs.Common.{◌≡◌, ◌++◌, take}
use Rattle.radio_hall.proofs.Words.{stamps}
use Rattle.radio_hall.proofs.passes.add_stamps.Given as goal

abbrev pub invariant-loop-receipt : goal.invariant-loop-receipt
invariant-loop-receipt l = l.all.items ≡ l.initial.all.items ++ stamps (take l.receipt-index l.receipts)
