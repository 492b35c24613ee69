use Rattle.std.proofs.Common.{Option, ap, sym, subst, ◌∙◌}
use Rattle.radio_parts_mount.proofs.Words.{∥∥₁_map, Session, IsList}
use Rattle.radio_parts_mount.proofs.ListLemmas.{ended}
use Rattle.radio_parts_mount.proofs.listed.ListedPart.end.Goals as goal

pub invariant_of-self-inside-2 : goal.invariant_of-self-inside-2
invariant_of-self-inside-2 c =
    let part = c.self.inside.part in (
      ∥∥₁_map c.self.inside.told (λ (told : IsList c.self.inside.list part.mount part.session part.attachments).
          subst (λ (session : Option Session). IsList c.detach.new.self part.mount session part.attachments) (sym c.take.ensures.after)
          (ended c.detach.new.self part.mount part.attachments part.session c.in-Some.session _ (sym c.take.ensures.value ∙ c.in-Some.is)
          (ap (λ (session : Session). session.number) (sym c.session.view_is)) (c.detach.ensures part.mount part.session part.attachments told))),
      tt,
    )
