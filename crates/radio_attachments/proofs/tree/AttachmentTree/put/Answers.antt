use Rattle.std.proofs.Common.{◌≤◌, ap, sym, subst, arith}
use Rattle.radio_attachments.specs.declared.attachment.Attachment.{Attachment}
use Rattle.radio_attachments.proofs.Bounds.{IsBound, lower_bound}
use Rattle.radio_attachments.proofs.Order.{each_put}
use Rattle.radio_attachments.proofs.tree.AttachmentTree.put.Goals as goal

pub invariant_of-self : goal.invariant_of-self
invariant_of-self c =
    let is = c.min-self-inside.ensures in
    let his = ap (λ (row : Attachment). row.place) c.row.ensures in
    subst (IsBound c.min-self-inside.result) (sym c.put.ensures)
    (each_put (λ (row : Attachment). c.min-self-inside.result ≤ row.place) c.args.boxed c.self.inside.root (omega (arith, is, his))
    (lower_bound c.self.inside.least c.min-self-inside.result (omega (arith, is)) c.self.inside.root c.self.invariant))
