use Rattle.std.proofs.Common.{Some, ap, sym, subst, ◌∙◌}
use Rattle.radio_parts_table.proofs.Words.{with_title, titled, ByMount, by_mount_of, with_live}
use Rattle.radio_parts_table.proofs.PartLemmas.{AreWhole, titled_whole, changed_shown}
use Rattle.radio_parts_table.proofs.parts.MountParts.set_title.Goals as goal

pub invariant_of-self : goal.invariant_of-self
invariant_of-self c =
    subst (AreWhole c.self.inside.furthest) (sym c.swap.ensures.row)
    (titled_whole c.args.mount.now c.self.inside.furthest c.self.inside.parts c.len.ensures.rising c.self.invariant c.args.title)

pub returns : goal.returns
returns c =
    ap by_mount_of c.swap.ensures.row ∙ changed_shown c.args.mount.now c.self.inside.parts c.len.ensures.rising c.self.invariant.1 (with_title (Some c.args.title))
    ∙ ap (λ (parts : ByMount). with_live (titled parts.live c.args.mount.now c.args.title) parts) c.self.view_is
