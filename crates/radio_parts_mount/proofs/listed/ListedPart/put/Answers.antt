use Rattle.std.proofs.Common.{List, ap, sym, subst, ◌∙◌}
use Rattle.radio_parts_mount.proofs.Words.{∥∥₁_map, Attachment, put_in, IsList}
use Rattle.radio_parts_mount.proofs.listed.ListedPart.put.Goals as goal

pub invariant_of-self-inside : goal.invariant_of-self-inside
invariant_of-self-inside c =
    let part = c.self.inside.part in (
      ∥∥₁_map c.self.inside.told (λ (told : IsList c.self.inside.list part.mount part.session part.attachments).
          subst (λ (rows : List Attachment). IsList c.attach.new.self part.mount part.session rows)
          (ap (λ (row : Attachment). put_in row part.attachments) c.row-row.ensures ∙ sym c.put.ensures)
          (c.attach.ensures part.mount part.session part.attachments told)),
      tt,
    )
