use Rattle.std.proofs.Common.{take, All}
use Rattle.radio_hall.proofs.Words.{StandsIn}
use Rattle.radio_hall.proofs.passes.strange_in.Given as goal

abbrev pub invariant-loop-receipt : goal.invariant-loop-receipt
invariant-loop-receipt l = All (StandsIn l.family.control.items l.family.mounts.items) (take l.receipt-index l.receipts)
