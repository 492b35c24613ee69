use Rattle.std.proofs.Common.{subst}
use Rattle.radio_seats.proofs.Words.{SeatTable, name_in, AreByNumber}
use Rattle.radio_seats.proofs.RowLemmas.{rising_shown}
use Rattle.radio_seats.proofs.seats.Seats.len.Goals as goal

pub returns-clause-rising : goal.returns-clause-rising
returns-clause-rising c =
    subst (λ (b : SeatTable). AreByNumber b.seats) c.self.view_is (rising_shown (name_in c.self.inside.mounts.mounts) c.self.inside.rows c.len.ensures.rising)
