use Rattle.std.proofs.Common.{ap, sym, ◌∙◌}
use Rattle.radio_parts_table.proofs.Words.{last_mount_of, places_in, Listening}
use Rattle.radio_parts_table.proofs.HeardReads.{last_heard}
use Rattle.radio_parts_table.proofs.listeners.Listeners.last_mount.Goals as goal

pub returns : goal.returns
returns c =
    let i = c.self.inside in
    c.last_mount.ensures ∙ sym (last_heard (places_in i.parts.attached) i.seats.seats c.args.id)
    ∙ ap (λ (b : Listening). last_mount_of b.seats c.args.id) c.self.view_is
