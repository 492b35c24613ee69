use Rattle.std.proofs.Common.{ap, sym, ◌∙◌}
use Rattle.radio_parts_table.proofs.Words.{listener_of, standing_in, places_in, Listening}
use Rattle.radio_parts_table.proofs.HeardReads.{standing_heard}
use Rattle.radio_parts_table.proofs.listeners.Listeners.standing.Goals as goal

pub returns : goal.returns
returns c =
    let i = c.self.inside in
    c.standing.ensures ∙ sym (standing_heard (places_in i.parts.attached) i.seats.seats c.args.id)
    ∙ ap (λ (b : Listening). standing_in (listener_of b.seats c.args.id)) c.self.view_is
