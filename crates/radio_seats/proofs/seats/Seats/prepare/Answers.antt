use Rattle.std.proofs.Common.{ap, ◌∙◌}
use Rattle.radio_seats.proofs.Words.{SeatTable}
use Rattle.radio_seats.proofs.RowLemmas.{shown_still}
use Rattle.radio_seats.proofs.seats.Seats.prepare.Goals as goal

pub returns-clause-seats : goal.returns-clause-seats
returns-clause-seats c =
    shown_still c.self.inside.mounts.mounts c.prepare.new.self.mounts c.self.inside.rows c.self.invariant.counted c.prepare.ensures.names
    ∙ ap (λ (b : SeatTable). b.seats) c.self.view_is
