use Rattle.std.proofs.Common.{ap, ◌∙◌}
use Rattle.radio_seats.proofs.Words.{SeatTable, first_moment, name_in}
use Rattle.radio_seats.proofs.TestedRows.{moments_shown}
use Rattle.radio_seats.proofs.seats.Seats.first_moment.Goals as goal

pub returns : goal.returns
returns g c =
    let moment = g.M.GuestMoment.gives c.args.moment.now in
    c.first_in.ensures
    ∙ moments_shown moment c.args.last (name_in c.self.inside.mounts.mounts) c.self.inside.rows c.args.last
    ∙ ap (λ (b : SeatTable). first_moment moment c.args.last b.seats) c.self.view_is
