use Rattle.std.proofs.Common.{ℕ, ◌<◌, List, subst, ◌∙◌}
use Rattle.radio_hall.proofs.Words.{All-more, ReceiptOf, All-whole, Rises, serials_in}
use Rattle.radio_hall.proofs.passes.find_fall.Goals as goal

abbrev Rise : ℕ → List ReceiptOf → Type 0
Rise lists pass = (list : ℕ) → list < lists → Rises 0 (serials_in list pass)

pub loop-pass-preserved : goal.loop-pass-preserved
loop-pass-preserved g c =
    let item = c.pass-item in
    All-more (Rise c.args.lists) c.args.passes.now c.loop-pass.pass-index item.result c.loop-pass-test.true c.loop-pass.invariant
    (subst (λ (pass : List ReceiptOf). Rise c.args.lists pass) (c.receipts.ensures ∙ item.is) c.in_default.ensures.none)

pub returns-clause-none : goal.returns-clause-none
returns-clause-none g c = All-whole (Rise c.args.lists) c.args.passes.now c.loop-pass.pass-index c.loop-pass-test.false c.loop-pass.invariant
