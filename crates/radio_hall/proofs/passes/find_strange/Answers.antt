use Rattle.std.proofs.Common.{All, List, subst, ◌∙◌}
use Rattle.radio_hall.proofs.Words.{All-more, All-whole, ReceiptOf, StandsIn}
use Rattle.radio_hall.proofs.passes.find_strange.Goals as goal

pub loop-pass-preserved : goal.loop-pass-preserved
loop-pass-preserved g c =
    let family = c.args.family.now in
    let item = c.pass-item in
    let stand = λ (pass : List ReceiptOf). All (StandsIn family.control.items family.mounts.items) pass in
    All-more stand c.args.passes.now c.loop-pass.pass-index item.result c.loop-pass-test.true c.loop-pass.invariant
    (subst (λ (pass : List ReceiptOf). stand pass) (c.receipts.ensures ∙ item.is) c.in_default.ensures.none)

pub returns-clause-none : goal.returns-clause-none
returns-clause-none g c =
    let family = c.args.family.now in
    All-whole (λ pass. All (StandsIn family.control.items family.mounts.items) pass) c.args.passes.now c.loop-pass.pass-index c.loop-pass-test.false
    c.loop-pass.invariant
