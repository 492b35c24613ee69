use Rattle.std.proofs.Common.{ℕ, drop}
use Rattle.radio_hall.proofs.Words.{Falls, Rises, serials_in}
use Rattle.radio_hall.proofs.passes.fall_in_list.Given as goal

abbrev pub invariant-loop-receipt : goal.invariant-loop-receipt
invariant-loop-receipt l =
    (Rises l.seen (serials_in l.list (drop l.receipt-index l.receipts)) → Rises 0 (serials_in l.list l.receipts))
    × ((seen got : ℕ) → Falls l.seen seen got (serials_in l.list (drop l.receipt-index l.receipts)) → Falls 0 seen got (serials_in l.list l.receipts))
