use Rattle.std.proofs.Common.{Some, refl, ap, ◌∙◌}
use Rattle.radio_parts_table.proofs.Words.{ByMount, has_part, places_in, with_boxed}
use Rattle.radio_parts_table.proofs.ByMountChanges.{attached_others, attached_at, attached_elsewhere}
use Rattle.radio_parts_table.proofs.ByMountLemmas.{part_stays}
use Rattle.radio_parts_table.proofs.parts.MountParts.attach.Goals as goal

pub returns-clause-others : goal.returns-clause-others
returns-clause-others c = λ mount other apart.
    ap (λ (parts : ByMount). places_in parts.attached mount other) c.put.ensures
    ∙ attached_others c.args.mount.now c.args.boxed c.args.self.now.attached mount other apart

pub returns-clause-there : goal.returns-clause-there
returns-clause-there c = λ part.
    ap (λ (parts : ByMount). places_in parts.attached c.args.mount.now c.args.boxed.id) c.put.ensures
    ∙ attached_at c.args.mount.now c.args.boxed c.args.self.now.attached part

pub returns-clause-elsewhere : goal.returns-clause-elsewhere
returns-clause-elsewhere c = λ other apart.
    ap (λ (parts : ByMount). places_in parts.attached other c.args.boxed.id) c.put.ensures
    ∙ attached_elsewhere c.args.mount.now c.args.boxed c.args.self.now.attached other apart

pub returns-clause-parts : goal.returns-clause-parts
returns-clause-parts c = λ other.
    ap (λ (parts : ByMount). has_part parts.attached other) c.put.ensures
    ∙ part_stays c.args.mount.now (with_boxed (Some c.args.boxed)) (λ x. refl) c.args.self.now.attached other

pub returns-clause-live : goal.returns-clause-live
returns-clause-live c = ap (λ (parts : ByMount). parts.live) c.put.ensures
