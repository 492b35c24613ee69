use Rattle.std.proofs.Common.{ap, sym, ◌∙◌}
use Rattle.radio_seats.proofs.Words.{SeatTable, is_number, name_in, sits_there}
use Rattle.radio_seats.proofs.RowLemmas.{no_user_there, user_there}
use Rattle.radio_seats.proofs.seats.Seats.user_at.Goals as goal

pub returns-in_default : goal.returns-in_default
returns-in_default c =
    let name = name_in c.self.inside.mounts.mounts in
    sym (ap (λ (b : SeatTable). sits_there b.seats c.args.mount.now c.args.user.now) (sym c.self.view_is)
    ∙ no_user_there name c.args.mount.now (λ k. c.number.ensures.only k ∙ ap (λ n. is_number n k) c.in_default.is) c.args.user.now c.self.inside.rows)

pub returns : goal.returns
returns c =
    let name = name_in c.self.inside.mounts.mounts in
    c.has.ensures
    ∙ sym (ap (λ (b : SeatTable). sits_there b.seats c.args.mount.now c.args.user.now) (sym c.self.view_is)
    ∙ user_there name c.args.mount.now c.in-Some.number (λ k. c.number.ensures.only k ∙ ap (λ n. is_number n k) c.in-Some.is) c.args.user.now
    c.self.inside.rows)
