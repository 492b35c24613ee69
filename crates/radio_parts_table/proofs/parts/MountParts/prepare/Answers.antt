use Rattle.std.proofs.Common.{◌≡◌, ℕ, [], Some, None, List, Option, false, refl, ap, sym, subst, ◌∙◌}
use Rattle.radio_parts_table.proofs.Words.{find, is_some, placed, passes_none, MountPart, ByMount, attached_in, has_part, live_in, MountAttachments, is_part_of, is_of_mount, places_in}
use Rattle.radio_parts_table.proofs.ByMountChanges.{no_part, part_more, places_prepared, with_mount}
use Rattle.radio_parts_table.proofs.LiveLemmas.{part_added}
use Rattle.radio_parts_table.proofs.PartLemmas.{AreWhole, has_its_part}
use Rattle.radio_parts_table.proofs.PartAttachments.{by_name, placed_whole, seen_placed}
use Rattle.radio_parts_table.proofs.parts.MountParts.prepare.Goals as goal
use Rattle.radio_parts_table.proofs.parts.MountParts.prepare.Goals.{In_ok-insert}

abbrev fresh : List ℕ → MountPart
fresh mount = record { mount = mount; session = None; attachments = []; lagged = [] }

inserted : (c : In_ok-insert) → c.insert.new.self ≡ placed by_name (fresh c.args.mount.now) c.self.inside.parts
inserted c = c.in_ok-insert.ensures.ok ∙ ap (λ (part : MountPart). placed by_name part c.self.inside.parts) c.new_part-part.ensures

no_one : (found : Option MountPart) → is_some found ≡ false → found ≡ None
no_one None e = refl
no_one (Some part) e = cc

none_there : (c : In_ok-insert) → find (is_part_of c.args.mount.now) c.self.inside.parts ≡ None
none_there c = no_one (find (is_part_of c.args.mount.now) c.self.inside.parts) (has_its_part c.args.mount.now c.self.inside.parts
    ∙ ap (λ (parts : ByMount). has_part parts.attached c.args.mount.now) c.self.view_is ∙ sym c.has_part.ensures ∙ c.if-has_part.false)

no_row : (c : In_ok-insert) → find (is_of_mount c.args.mount.now) c.args.self.now.attached ≡ None
no_row c = no_part _ (sym c.has_part.ensures ∙ c.if-has_part.false)

seen : (c : In_ok-insert) → attached_in c.insert.new.self ≡ with_mount c.args.mount.now c.args.self.now.attached
seen c =
    ap attached_in (inserted c) ∙ seen_placed (fresh c.args.mount.now) refl c.self.inside.parts
    ∙ ap (λ (parts : ByMount). with_mount c.args.mount.now parts.attached) c.self.view_is

pub invariant_of-self-2 : goal.invariant_of-self-2
invariant_of-self-2 c =
    subst (AreWhole c.self.inside.furthest) (sym (inserted c))
    (placed_whole (fresh c.args.mount.now) refl c.self.inside.furthest c.self.inside.parts (none_there c) c.self.invariant)

pub returns-clause-parts : goal.returns-clause-parts
returns-clause-parts c = λ other.
    ap (λ (rows : List MountAttachments). has_part rows other) (seen c) ∙ part_more c.args.mount.now c.args.self.now.attached other

pub returns-clause-places : goal.returns-clause-places
returns-clause-places c = λ other id.
    ap (λ (rows : List MountAttachments). places_in rows other id) (seen c)
    ∙ places_prepared c.args.mount.now c.args.self.now.attached (no_row c) other id

pub returns-clause-live : goal.returns-clause-live
returns-clause-live c =
    ap live_in (inserted c)
    ∙ part_added (fresh c.args.mount.now) refl c.self.inside.parts (passes_none (is_part_of c.args.mount.now) c.self.inside.parts (none_there c))
    ∙ ap (λ (parts : ByMount). parts.live) c.self.view_is
