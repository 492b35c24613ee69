use Rattle.std.proofs.Common.{subst, sym, arith}
use Rattle.radio_attachments.proofs.Bounds.{IsBound, placed_bound}
use Rattle.radio_attachments.proofs.tree.AttachmentTree.set_place.Goals as goal

pub invariant_of-self : goal.invariant_of-self
invariant_of-self c =
    let is = c.min-self-inside.ensures in
    subst (IsBound c.min-self-inside.result) (sym c.set_place.ensures)
    (placed_bound c.self.inside.least c.min-self-inside.result c.args.id c.args.place (omega (arith, is)) (omega (arith, is)) c.self.inside.root c.self.invariant)
