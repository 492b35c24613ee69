use Rattle.std.proofs.Common.{List, Vec, Global, refl, subst}
use Rattle.std.proofs.lemmas.List.Elements.{All-more}
use Rattle.radio_merge.proofs.Words.{Stamp, IsSubsequence}
use Rattle.radio_merge.proofs.Wholes.{All-whole}
use Rattle.radio_merge.proofs.passes.are_in_order.Goals as goal

pub loop-pass-preserved : goal.loop-pass-preserved
loop-pass-preserved c =
    let order = c.args.order.now in
    let item = c.pass-item in
    All-more (λ pass. IsSubsequence pass.items order) c.args.passes.now c.loop-pass.pass-index item.result c.loop-pass-test.true c.loop-pass.invariant
    (subst (λ (pass : Vec Stamp Global). IsSubsequence pass.items order) item.is
    (subst (λ (xs : List Stamp). IsSubsequence xs order) c.as_slice.ensures.value (c.if-not-is_in_order.ensures refl)))

pub returns : goal.returns
returns c is =
    All-whole (λ pass. IsSubsequence pass.items c.args.order.now) c.args.passes.now c.loop-pass.pass-index c.loop-pass-test.false c.loop-pass.invariant
