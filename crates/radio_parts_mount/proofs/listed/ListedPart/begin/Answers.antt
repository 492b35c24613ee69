use Rattle.std.proofs.Common.{◌≡◌, ℕ, None, Some, Option, List, refl, sym, subst}
use Rattle.radio_parts_mount.proofs.Words.{∥∥₁_map, Session, IsList}
use Rattle.radio_parts_mount.proofs.listed.ListedPart.begin.Goals as goal

pub invariant_of-self-inside-2 : goal.invariant_of-self-inside-2
invariant_of-self-inside-2 c =
    let part = c.self.inside.part in
    let session = c.into_session-session.result in
    let mount : part.mount ≡ session.mount = c.if-not-is_free_for.ensures.mount refl in (
      ∥∥₁_map c.self.inside.told (λ (told : IsList c.self.inside.list part.mount part.session part.attachments).
          subst (λ (name : List ℕ). IsList c.note_begun.new.list name (Some session) part.attachments) (sym mount)
          (c.note_begun.ensures part.attachments
          (subst (λ (name : List ℕ). IsList c.self.inside.list name None part.attachments) mount
          (subst (λ (its : Option Session). IsList c.self.inside.list part.mount its part.attachments) (c.if-not-is_free_for.ensures.free refl) told)))),
      tt,
    )
