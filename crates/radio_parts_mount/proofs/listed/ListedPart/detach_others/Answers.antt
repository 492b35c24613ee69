use Rattle.std.proofs.Common.{Bool, ℕ, List, ap, sym, subst, ◌∙◌}
use Rattle.radio_parts_mount.proofs.Words.{not, ∥∥₁_map, Attachment, sits_at, IsList, without_all}
use Rattle.radio_parts_mount.proofs.Departures.{left_are_those_who_stay}
use Rattle.radio_parts_mount.proofs.listed.ListedPart.detach_others.Goals as goal

pub invariant_of-self-inside : goal.invariant_of-self-inside
invariant_of-self-inside c =
    let part = c.self.inside.part in
    let elsewhere : ℕ → Bool = λ id. not (sits_at c.args.seats.now.seats id c.args.mount.now) in (
      ∥∥₁_map c.self.inside.told (λ (told : IsList c.self.inside.list part.mount part.session part.attachments).
          subst (λ (rows : List Attachment). IsList c.note_all_detached.new.list part.mount part.session rows)
          (ap (λ (others : List Attachment). without_all others part.attachments) c.split_others-others.ensures.others
          ∙ left_are_those_who_stay elsewhere part.attachments ∙ sym c.split_others-others.ensures.rest)
          (c.note_all_detached.ensures part.mount part.attachments told)),
      tt,
    )
