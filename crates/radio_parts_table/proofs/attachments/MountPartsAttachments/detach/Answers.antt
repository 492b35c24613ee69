use Rattle.std.proofs.Common.{refl, ap, sym, subst, ◌∙◌}
use Rattle.radio_parts_table.proofs.Words.{GoesOff, ByMount, has_part, places_in, without_id}
use Rattle.radio_parts_table.proofs.ByMountLemmas.{detached_others, goes_off, part_stays}
use Rattle.radio_parts_table.proofs.attachments.MountPartsAttachments.detach.Goals as goal

pub returns-clause-others : goal.returns-clause-others
returns-clause-others c = λ mount other apart.
    ap (λ (parts : ByMount). places_in parts.attached mount other) c.take.ensures.rest
    ∙ detached_others c.args.id c.args.from.now c.args.from.now c.args.self.now.attached mount other apart

pub returns-clause-off : goal.returns-clause-off
returns-clause-off c =
    subst (λ (parts : ByMount). GoesOff (places_in c.args.self.now.attached) (places_in parts.attached) c.args.id c.args.from.now) (sym c.take.ensures.rest)
    (goes_off c.args.id c.args.from.now c.args.from.now c.args.self.now.attached)

pub returns-clause-parts : goal.returns-clause-parts
returns-clause-parts c = λ mount.
    ap (λ (parts : ByMount). has_part parts.attached mount) c.take.ensures.rest ∙ part_stays c.args.from.now (without_id c.args.id) (λ x. refl) c.args.self.now.attached mount
