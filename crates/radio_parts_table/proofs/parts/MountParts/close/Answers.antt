use Rattle.std.proofs.Common.{ap, sym, subst, ◌∙◌}
use Rattle.radio_parts_table.proofs.Words.{without_session, ByMount, by_mount_of, with_live}
use Rattle.radio_parts_table.proofs.PartLemmas.{AreWhole, ended_whole, ended_shown}
use Rattle.radio_parts_table.proofs.parts.MountParts.close.Goals as goal

pub invariant_of-self : goal.invariant_of-self
invariant_of-self c =
    subst (AreWhole c.self.inside.furthest) (sym c.swap.ensures.row)
    (ended_whole c.args.mount.now c.self.inside.furthest c.self.inside.parts c.len.ensures.rising c.self.invariant)

pub returns : goal.returns
returns c =
    ap by_mount_of c.swap.ensures.row ∙ ended_shown c.args.mount.now c.self.inside.parts c.len.ensures.rising c.self.invariant.1
    ∙ ap (λ (parts : ByMount). with_live (without_session parts.live c.args.mount.now) parts) c.self.view_is
