use Rattle.std.proofs.Common.{◌≡◌, refl, ap, sym, subst, ◌∙◌}
use Rattle.radio_parts_table.proofs.Words.{ByMount, by_mount_of, has_part, places_in, with_attached, with_sitters}
use Rattle.radio_parts_table.proofs.ByMountChanges.{left_there, left_at, left_elsewhere}
use Rattle.radio_parts_table.proofs.ByMountLemmas.{part_stays}
use Rattle.radio_parts_table.proofs.PartLemmas.{AreWhole}
use Rattle.radio_parts_table.proofs.PartAttachments.{attachments_shown, attachments_whole}
use Rattle.radio_parts_table.proofs.parts.MountParts.detach_others.Goals as goal
use Rattle.radio_parts_table.proofs.parts.MountParts.detach_others.Goals.{After-change}

-- what the parts are seen as afterwards
seen : (c : After-change) → by_mount_of c.change.new.self
    ≡ with_attached (left_there c.args.seats.now.seats c.args.mount.now c.args.self.now.attached) c.args.self.now
seen c =
    let seats = c.args.seats.now.seats in
    let mount = c.args.mount.now in
    ap by_mount_of c.change.ensures ∙ attachments_shown mount (with_sitters seats mount) (λ part. refl) c.self.inside.parts
    ∙ ap (λ (parts : ByMount). with_attached (left_there seats mount parts.attached) parts) c.self.view_is

pub invariant_of-self : goal.invariant_of-self
invariant_of-self c =
    subst (AreWhole c.self.inside.furthest) (sym c.change.ensures)
    (attachments_whole c.args.mount.now (with_sitters c.args.seats.now.seats c.args.mount.now) c.self.inside.furthest c.self.inside.parts c.self.invariant)

pub returns-clause-there : goal.returns-clause-there
returns-clause-there c = λ id.
    ap (λ (parts : ByMount). places_in parts.attached c.args.mount.now id) (seen c)
    ∙ left_at c.args.seats.now.seats c.args.mount.now c.args.self.now.attached id

pub returns-clause-elsewhere : goal.returns-clause-elsewhere
returns-clause-elsewhere c = λ other id apart.
    ap (λ (parts : ByMount). places_in parts.attached other id) (seen c)
    ∙ left_elsewhere c.args.seats.now.seats c.args.mount.now c.args.self.now.attached other id apart

pub returns-clause-parts : goal.returns-clause-parts
returns-clause-parts c = λ other.
    ap (λ (parts : ByMount). has_part parts.attached other) (seen c)
    ∙ part_stays c.args.mount.now (with_sitters c.args.seats.now.seats c.args.mount.now) (λ x. refl) c.args.self.now.attached other

pub returns-clause-live : goal.returns-clause-live
returns-clause-live c = ap (λ (parts : ByMount). parts.live) (seen c)
