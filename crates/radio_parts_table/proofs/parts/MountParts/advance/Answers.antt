use Rattle.std.proofs.Common.{◌≡◌, ℕ, refl, ap, sym, subst, ◌∙◌}
use Rattle.radio_parts_table.proofs.Words.{update_first, IsAt, GoesOver, ByMount, by_mount_of, has_part, is_part_of, places_in, with_attached, advanced_there, on_part}
use Rattle.radio_parts_table.proofs.ByMountChanges.{advanced_in, advanced_others, advanced_place, advanced_over}
use Rattle.radio_parts_table.proofs.ByMountLemmas.{part_stays}
use Rattle.radio_parts_table.proofs.PartLemmas.{AreWhole}
use Rattle.radio_parts_table.proofs.PartAttachments.{attachments_shown, attachments_whole}
use Rattle.radio_parts_table.proofs.parts.MountParts.advance.Goals as goal
use Rattle.radio_parts_table.proofs.parts.MountParts.advance.Goals.{After-change}

-- what the parts are seen as afterwards
seen : (c : After-change) → by_mount_of c.change.new.self ≡ with_attached (advanced_in c.args.id c.args.place c.args.mount.now c.args.self.now.attached) c.args.self.now
seen c =
    let id = c.args.id in
    let mount = c.args.mount.now in
    ap by_mount_of (c.change.ensures
    ∙ ap (λ (n : ℕ). update_first (is_part_of mount) (on_part (advanced_there id n)) c.self.inside.parts) c.bytes_before-place.ensures)
    ∙ attachments_shown mount (advanced_there id c.args.place) (λ part. refl) c.self.inside.parts
    ∙ ap (λ (parts : ByMount). with_attached (advanced_in id c.args.place mount parts.attached) parts) c.self.view_is

pub invariant_of-self : goal.invariant_of-self
invariant_of-self c =
    subst (AreWhole c.self.inside.furthest) (sym c.change.ensures)
    (attachments_whole c.args.mount.now (advanced_there c.args.id c.bytes_before-place.result) c.self.inside.furthest c.self.inside.parts c.self.invariant)

pub returns-clause-others : goal.returns-clause-others
returns-clause-others c = λ at other apart.
    ap (λ (parts : ByMount). places_in parts.attached at other) (seen c)
    ∙ advanced_others c.args.id c.args.place c.args.mount.now c.args.self.now.attached at other apart

pub returns-clause-there : goal.returns-clause-there
returns-clause-there c =
    subst (λ (parts : ByMount). IsAt (places_in parts.attached c.args.mount.now c.args.id) c.args.place) (sym (seen c))
    (advanced_place c.args.id c.args.place c.args.mount.now c.args.self.now.attached)

pub returns-clause-over : goal.returns-clause-over
returns-clause-over c =
    let mount = c.args.mount.now in
    subst (λ (parts : ByMount). GoesOver (places_in c.args.self.now.attached) (places_in parts.attached) c.args.id mount mount) (sym (seen c))
    (advanced_over c.args.id c.args.place mount c.args.self.now.attached)

pub returns-clause-parts : goal.returns-clause-parts
returns-clause-parts c = λ other.
    ap (λ (parts : ByMount). has_part parts.attached other) (seen c)
    ∙ part_stays c.args.mount.now (advanced_there c.args.id c.args.place) (λ x. refl) c.args.self.now.attached other

pub returns-clause-live : goal.returns-clause-live
returns-clause-live c = ap (λ (parts : ByMount). parts.live) (seen c)
