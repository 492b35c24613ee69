use Rattle.std.proofs.Common.{◌≡◌, ℕ, Option, List, sym, subst, ◌∙◌}
use Rattle.radio_parts_mount.proofs.Words.{∥∥₁_map, Attachment, Event, Session, after_own, part_of, IsList, part_answers, CanDraw, MountPart, Replied}
use Rattle.radio_parts_mount.proofs.OwnSteps.{elsewhere_so, replied_so}
use Rattle.radio_parts_mount.proofs.listed.ListedPart.step_noting.Goals as goal

pub invariant_of-self-inside : goal.invariant_of-self-inside
invariant_of-self-inside c =
    let part = c.self.inside.part in
    let can = subst (λ (p : MountPart). CanDraw p c.args.event) (sym c.self.view_is) c.requires.can in
    let reply = c.in-Ok-Replied.reply in (
      ∥∥₁_map c.self.inside.told (λ (told : IsList c.self.inside.list part.mount part.session part.attachments).
          replied_so c.args.queue c.args.moment part c.self.inside.list c.note_own.new.list c.note_lagging.new.list c.step.new.self c.args.event reply
          (c.in-Ok-Replied.ensures.ok can) (sym (c.in-Ok-Replied.ensures.answer can) ∙ c.in-Ok-Replied.field-0-is)
          (subst (λ (event : Event). (mount : List ℕ) (session : Option Session) (attachments : List Attachment) → IsList c.self.inside.list mount session attachments
          → part_answers (part_of mount session attachments) event ≡ Replied reply
          → IsList c.note_own.new.list mount (after_own c.args.queue mount c.args.moment session attachments event).session
          (after_own c.args.queue mount c.args.moment session attachments event).attachments) c.requires.copy c.note_own.ensures)
          c.note_lagging.ensures told),
      tt,
    )

pub invariant_of-self-inside-in-Elsewhere-1 : goal.invariant_of-self-inside-in-Elsewhere-1
invariant_of-self-inside-in-Elsewhere-1 c =
    let part = c.self.inside.part in
    let can = subst (λ (p : MountPart). CanDraw p c.args.event) (sym c.self.view_is) c.requires.can in (
      ∥∥₁_map c.self.inside.told (λ (told : IsList c.self.inside.list part.mount part.session part.attachments).
          elsewhere_so c.args.queue c.args.moment part c.self.inside.list c.step.new.self c.args.event c.in-Ok-Elsewhere.event (c.in-Ok-Elsewhere.ensures.ok can)
          (sym (c.in-Ok-Elsewhere.ensures.answer can) ∙ c.in-Ok-Elsewhere.field-0-is) told),
      tt,
    )
