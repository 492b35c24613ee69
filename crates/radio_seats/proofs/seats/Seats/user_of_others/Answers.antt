use Rattle.std.proofs.Common.{ap, sym, ◌∙◌}
use Rattle.radio_seats.proofs.Words.{SeatTable, is_number, name_in, sits_there, without_listener}
use Rattle.radio_seats.proofs.OtherLemmas.{no_other_user_there, other_user_there}
use Rattle.radio_seats.proofs.seats.Seats.user_of_others.Goals as goal

pub returns-in_default : goal.returns-in_default
returns-in_default c =
    sym (ap (λ (b : SeatTable). sits_there (without_listener b.seats c.args.id) c.args.mount.now c.args.user.now) (sym c.self.view_is)
    ∙ no_other_user_there (name_in c.self.inside.mounts.mounts) c.args.mount.now c.args.user.now c.args.id
    (λ k. c.number.ensures.only k ∙ ap (λ n. is_number n k) c.in_default.is) c.self.inside.rows)

pub returns : goal.returns
returns c =
    c.has.ensures
    ∙ sym (ap (λ (b : SeatTable). sits_there (without_listener b.seats c.args.id) c.args.mount.now c.args.user.now) (sym c.self.view_is)
    ∙ other_user_there (name_in c.self.inside.mounts.mounts) c.args.mount.now c.args.user.now c.args.id c.in-Some.number
    (λ k. c.number.ensures.only k ∙ ap (λ n. is_number n k) c.in-Some.is) c.self.inside.rows)
