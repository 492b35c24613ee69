use Rattle.std.proofs.Common.{subst}
use Rattle.radio_hall.proofs.Words.{All-more, All-whole, StandsIn}
use Rattle.radio_hall.proofs.passes.strange_in.Goals as goal

pub loop-receipt-preserved : goal.loop-receipt-preserved
loop-receipt-preserved c =
    let family = c.args.family.now in
    let item = c.receipt-item in
    All-more (StandsIn family.control.items family.mounts.items) c.args.receipts.now c.loop-receipt.receipt-index item.result c.loop-receipt-test.true
    c.loop-receipt.invariant
    (subst (λ s. StandsIn family.control.items family.mounts.items s) item.is (c.stands_in.ensures.0 c.if-not-stands_in.false))

pub returns-clause-none : goal.returns-clause-none
returns-clause-none c =
    let family = c.args.family.now in
    All-whole (StandsIn family.control.items family.mounts.items) c.args.receipts.now c.loop-receipt.receipt-index c.loop-receipt-test.false
    c.loop-receipt.invariant
