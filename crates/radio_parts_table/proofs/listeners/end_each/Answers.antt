use Rattle.std.proofs.Common.{◌==◌, ◌||◌, List, ap, sym, ◌∙◌}
use Rattle.radio_parts_table.proofs.Words.{map, Attachment, same_table, Lagged, SeatTable, ended_if_lost, is_among}
use Rattle.radio_parts_table.proofs.LossLemmas.{ends_more, ends_nobody}
use Rattle.radio_parts_table.proofs.listeners.end_each.Goals as goal

pub lagging-preserved : goal.lagging-preserved
lagging-preserved c =
    let seats = c.lagging.seats.seats in
    let rest = c.take_first.new.self in (
      ap (λ (b : SeatTable). b.prepared) c.end_one.ensures ∙ c.lagging.invariant.0,
      ap (λ (b : SeatTable). map (ended_if_lost (is_among rest) Lagged) b.seats) c.end_one.ensures
          ∙ ends_more Lagged (is_among rest) c.row.result.id seats
          ∙ ap (λ (a : Attachment). map (ended_if_lost (λ k. (k == a.id) || is_among rest k) Lagged) seats) c.row.ensures
          ∙ ap (λ (rows : List Attachment). map (ended_if_lost (is_among rows) Lagged) seats) (sym c.in-Some.ensures)
          ∙ c.lagging.invariant.1,
    )

pub returns-clause-seats : goal.returns-clause-seats
returns-clause-seats c =
    let seats = c.lagging.seats.seats in
    same_table c.lagging.seats.prepared c.args.seats.now.prepared _ _ c.lagging.invariant.0
    (sym (ap (λ (rows : List Attachment). map (ended_if_lost (is_among rows) Lagged) seats) c.in_default.ensures.0 ∙ ends_nobody Lagged seats)
    ∙ c.lagging.invariant.1)
