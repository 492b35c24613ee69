use Rattle.std.proofs.Common.{refl, ap, sym, subst, ◌∙◌}
use Rattle.radio_parts_table.proofs.Words.{update_first, ByMount, by_mount_of, is_of_mount, with_attached, with_boxed}
use Rattle.radio_parts_table.proofs.PartLemmas.{AreWhole}
use Rattle.radio_parts_table.proofs.PartAttachments.{attachments_shown, attachments_whole}
use Rattle.radio_parts_table.proofs.parts.MountParts.put.Goals as goal

pub invariant_of-self : goal.invariant_of-self
invariant_of-self c =
    subst (AreWhole c.self.inside.furthest) (sym c.swap.ensures.row)
    (attachments_whole c.args.mount.now (with_boxed c.args.boxed) c.self.inside.furthest c.self.inside.parts c.self.invariant)

pub returns : goal.returns
returns c =
    ap by_mount_of c.swap.ensures.row ∙ attachments_shown c.args.mount.now (with_boxed c.args.boxed) (λ part. refl) c.self.inside.parts
    ∙ ap (λ (parts : ByMount). with_attached (update_first (is_of_mount c.args.mount.now) (with_boxed c.args.boxed) parts.attached) parts) c.self.view_is
