use Rattle.std.proofs.Common.{List, ap, ◌∙◌, ◌++◌}
use Rattle.radio_hall.proofs.Words.{ReceiptOf, stamps}
use Rattle.radio_hall.proofs.Settled.{stamps_more}
use Rattle.radio_hall.proofs.passes.sorted_stamps.Goals as goal

pub loop-pass-preserved : goal.loop-pass-preserved
loop-pass-preserved g c =
    stamps_more c.args.passes.now c.loop-pass.pass-index c.pass-item.result c.loop-pass.sorted.items c.add_stamps.new.all.items c.loop-pass-test.true
    c.loop-pass.invariant
    (c.in_ok-add_stamps.ensures ∙ ap (λ (pass : List ReceiptOf). c.loop-pass.sorted.items ++ stamps pass) (c.receipts.ensures ∙ c.pass-item.is))
