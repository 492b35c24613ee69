use Rattle.std.proofs.Common.{List, ap, ◌∙◌}
use Rattle.radio_parts_table.proofs.Words.{Lagged, Listener}
use Rattle.radio_parts_table.proofs.LossLemmas.{ends_one}
use Rattle.radio_parts_table.proofs.listeners.end_one.Goals as goal

pub returns : goal.returns
returns c =
    c.end.ensures ∙ ap (λ (seats : List Listener). record { prepared = c.args.seats.now.prepared; seats = seats })
    (ends_one Lagged c.args.id c.args.seats.now.seats c.len.ensures.rising)
