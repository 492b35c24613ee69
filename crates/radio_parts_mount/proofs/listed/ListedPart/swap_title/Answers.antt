use Rattle.std.proofs.Common.{Some, Option, sym, subst}
use Rattle.radio_parts_mount.proofs.Words.{∥∥₁_map, Session, with_title, IsList}
use Rattle.radio_parts_mount.proofs.listed.ListedPart.swap_title.Goals as goal

pub invariant_of-self-inside-2 : goal.invariant_of-self-inside-2
invariant_of-self-inside-2 c =
    let part = c.self.inside.part in (
      ∥∥₁_map c.self.inside.told (λ (told : IsList c.self.inside.list part.mount part.session part.attachments).
          subst (λ (session : Session). IsList c.note_title.new.list part.mount (Some (with_title c.swap.new.y session)) part.attachments) (sym c.session.view_is)
          (c.note_title.ensures part.mount (Some c.in-Some.session) part.attachments
          (subst (λ (session : Option Session). IsList c.self.inside.list part.mount session part.attachments) c.in-Some.is told))),
      tt,
    )
