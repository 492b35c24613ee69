use Rattle.std.proofs.Common.{◌≡◌, false, Option, Some, None, List, refl, sym, subst, ◌∙◌}
use Rattle.radio_parts_mount.proofs.Words.{∥∥₁_map, is_some, Attachment, is_attached, IsList}
use Rattle.radio_seats_rows.proofs.Lists.{none_removed}
use Rattle.radio_parts_mount.proofs.listed.ListedPart.take.Goals as goal

pub invariant_of-self-inside : goal.invariant_of-self-inside
invariant_of-self-inside c =
    let part = c.self.inside.part in (
      ∥∥₁_map c.self.inside.told (λ (told : IsList c.self.inside.list part.mount part.session part.attachments).
          subst (λ (rows : List Attachment). IsList c.note_detached.new.list part.mount part.session rows) (sym c.take-boxed.ensures.rest)
          (c.note_detached.ensures part.mount part.attachments told)),
      tt,
    )

no_one : (found : Option Attachment) → is_some found ≡ false → found ≡ None
no_one None e = refl
no_one (Some row) e = cc

pub invariant_of-self-inside-else-is_some : goal.invariant_of-self-inside-else-is_some
invariant_of-self-inside-else-is_some c =
    let part = c.self.inside.part in
    let none = no_one c.take-boxed.result (sym c.is_some.ensures ∙ c.if-is_some.false) in (
      ∥∥₁_map c.self.inside.told (λ (told : IsList c.self.inside.list part.mount part.session part.attachments).
          subst (λ (rows : List Attachment). IsList c.self.inside.list part.mount part.session rows)
          (sym (none_removed (is_attached c.args.id) part.attachments (sym c.take-boxed.ensures.found ∙ none)) ∙ sym c.take-boxed.ensures.rest) told),
      tt,
    )
