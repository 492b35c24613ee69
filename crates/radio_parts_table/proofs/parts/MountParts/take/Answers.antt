use Rattle.std.proofs.Common.{◌≡◌, ℕ, Option, None, Some, refl, ap, sym, subst, ◌∙◌}
use Rattle.radio_parts_table.proofs.Words.{find, option_map, option_map_or, is_attached, MountPart, update_first, ByMount, by_mount_of, attached_to, is_part_of, is_of_mount, found_in, with_attached, without_id}
use Rattle.radio_parts_table.specs.declared.attached.Takes.{Takes as TakesOf}
use Rattle.radio_parts_table.proofs.PartLemmas.{AreWhole}
use Rattle.radio_parts_table.proofs.PartAttachments.{attachments_shown, attachments_whole, found_through}
use Rattle.radio_parts_table.proofs.parts.MountParts.take.Goals as goal

abbrev gives : TakesOf → MountPart → TakesOf
gives takes part = record { id = takes.id; boxed = find (is_attached takes.id) part.attachments }

taken : (id : ℕ) (found : Option MountPart) → (option_map_or (gives (record { id = id; boxed = None })) found (record { id = id; boxed = None })).boxed
    ≡ found_in id (option_map attached_to found)
taken id None = refl
taken id (Some part) = refl

pub invariant_of-self : goal.invariant_of-self
invariant_of-self c =
    subst (AreWhole c.self.inside.furthest) (sym c.swap.ensures.row)
    (attachments_whole c.args.mount.now (without_id c.args.id) c.self.inside.furthest c.self.inside.parts c.self.invariant)

pub returns-clause-rest : goal.returns-clause-rest
returns-clause-rest c =
    ap by_mount_of c.swap.ensures.row ∙ attachments_shown c.args.mount.now (without_id c.args.id) (λ part. refl) c.self.inside.parts
    ∙ ap (λ (parts : ByMount). with_attached (update_first (is_of_mount c.args.mount.now) (without_id c.args.id) parts.attached) parts) c.self.view_is

pub returns-clause-found : goal.returns-clause-found
returns-clause-found c =
    let id = c.args.id in
    let mount = c.args.mount.now in
    ap (λ (takes : TakesOf). takes.boxed) c.swap.ensures.taken
    ∙ taken id (find (is_part_of mount) c.self.inside.parts)
    ∙ sym (found_through mount (found_in id) c.self.inside.parts (find (is_part_of mount) c.self.inside.parts) refl)
    ∙ ap (λ (parts : ByMount). found_in id (find (is_of_mount mount) parts.attached)) c.self.view_is
