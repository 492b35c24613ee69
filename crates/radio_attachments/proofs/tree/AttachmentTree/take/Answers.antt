use Rattle.std.proofs.Common.{◌≤◌, not, sym, subst}
use Rattle.radio_attachments.specs.declared.attachment.Attachment.{Attachment}
use Rattle.radio_attachments.specs.Rows.{is_attached}
use Rattle.radio_attachments.proofs.Bounds.{IsBound}
use Rattle.radio_attachments.proofs.Forks.{each_filtered}
use Rattle.radio_attachments.proofs.tree.AttachmentTree.take.Goals as goal

pub invariant_of-self : goal.invariant_of-self
invariant_of-self c =
    subst (IsBound c.self.inside.least) (sym c.take.ensures.rest)
    (each_filtered (λ (row : Attachment). c.self.inside.least ≤ row.place) (λ row. not (is_attached c.args.id row)) c.self.inside.root c.self.invariant)
