use Rattle.std.proofs.Common.{◌≡◌, ◌==◌, length, Option, Some, None, true, false, List, refl, ap, sym, subst, ◌∙◌}
use Rattle.radio_parts_table.proofs.Words.{find, is_some, not, option_copied, option_map, Each, Session, MountPart, ByMount, attached_in, has_part, live_in, MountAttachments, attached_to, is_part_of, is_of_mount}
use Rattle.radio_parts_table.proofs.Words.{places_in}
use Rattle.radio_parts_table.proofs.ByMountChanges.{part_left, places_released, without_mount}
use Rattle.radio_parts_table.proofs.LiveLemmas.{part_removed}
use Rattle.radio_parts_table.proofs.PartLemmas.{AreWhole}
use Rattle.radio_parts_table.proofs.PartAttachments.{are_silent, found_attached, seen_without, without_whole}
use Rattle.radio_parts_table.proofs.parts.MountParts.release.Goals as goal
use Rattle.radio_parts_table.proofs.parts.MountParts.release.Goals.{After-drop}

found : (c : After-drop) → find (is_part_of c.args.mount.now) c.self.inside.parts ≡ Some c.in-Some.part.now
found c = sym c.get.ensures ∙ ap option_copied c.in-Some.is

no_session : (found : Option Session) → is_some found ≡ false → found ≡ None
no_session None e = refl
no_session (Some session) e = cc

silent : (c : After-drop) → Each (λ (part : MountPart). is_part_of c.args.mount.now part ≡ true → part.session ≡ None) c.self.inside.parts
silent c =
    are_silent c.args.mount.now c.self.inside.parts c.in-Some.part.now c.len.ensures.rising (found c)
    (no_session c.in-Some.part.now.session (ap (λ (part : MountPart). is_some part.session) (sym c.part.ensures) ∙ c.is_none.ensures ∙ ap (λ b. not b) c.if-is_none.true))

seen : (c : After-drop) → attached_in c.remove.new.self ≡ without_mount c.args.mount.now c.args.self.now.attached
seen c =
    ap attached_in c.remove.ensures.removed ∙ seen_without c.args.mount.now c.self.inside.parts
    ∙ ap (λ (parts : ByMount). without_mount c.args.mount.now parts.attached) c.self.view_is

row : (c : After-drop) → find (is_of_mount c.args.mount.now) c.args.self.now.attached ≡ Some (attached_to c.in-Some.part.now)
row c =
    ap (λ (parts : ByMount). find (is_of_mount c.args.mount.now) parts.attached) (sym c.self.view_is)
    ∙ found_attached c.args.mount.now c.self.inside.parts ∙ ap (option_map attached_to) (found c)

pub invariant_of-self : goal.invariant_of-self
invariant_of-self c =
    subst (AreWhole c.self.inside.furthest) (sym c.remove.ensures.removed)
    (without_whole c.args.mount.now c.self.inside.furthest c.self.inside.parts (silent c) c.self.invariant)

pub returns-then-is_empty-clause-places : goal.returns-then-is_empty-clause-places
returns-then-is_empty-clause-places c = λ other id.
    ap (λ (rows : List MountAttachments). places_in rows other id) (seen c)
    ∙ places_released c.args.mount.now c.args.self.now.attached (attached_to c.in-Some.part.now) (row c) (ap (λ (part : MountPart). length part.attachments == 0) (sym c.part-then-is_none.ensures) ∙ sym c.is_empty.ensures ∙ c.if-is_empty.true) other id

pub returns-then-is_empty-clause-parts : goal.returns-then-is_empty-clause-parts
returns-then-is_empty-clause-parts c = λ other apart.
    ap (λ (rows : List MountAttachments). has_part rows other) (seen c) ∙ part_left c.args.mount.now c.args.self.now.attached other apart

pub returns-then-is_empty-clause-live : goal.returns-then-is_empty-clause-live
returns-then-is_empty-clause-live c =
    ap live_in c.remove.ensures.removed ∙ part_removed c.args.mount.now c.self.inside.parts (silent c)
    ∙ ap (λ (parts : ByMount). parts.live) c.self.view_is
