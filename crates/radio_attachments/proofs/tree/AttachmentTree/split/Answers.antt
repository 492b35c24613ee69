use Rattle.std.proofs.Common.{◌≤◌, not, sym, subst}
use Rattle.radio_attachments.specs.declared.attachment.Attachment.{Attachment}
use Rattle.radio_attachments.proofs.Bounds.{IsBound}
use Rattle.radio_attachments.proofs.Forks.{each_filtered}
use Rattle.radio_attachments.proofs.tree.AttachmentTree.split.Goals as goal

pub invariant_of-self : goal.invariant_of-self
invariant_of-self g c =
    subst (IsBound c.self.inside.least) (sym c.split.ensures.rest)
    (each_filtered (λ (row : Attachment). c.self.inside.least ≤ row.place) (λ row. not (g.T.AttachmentTest.passes c.args.test.now row)) c.self.inside.root
    c.self.invariant)

pub invariant_of-result : goal.invariant_of-result
invariant_of-result g c =
    subst (IsBound c.self.inside.least) (sym c.split.ensures.passed)
    (each_filtered (λ (row : Attachment). c.self.inside.least ≤ row.place) (g.T.AttachmentTest.passes c.args.test.now) c.self.inside.root c.self.invariant)
