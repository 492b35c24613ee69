use Rattle.std.proofs.Common.{ap, sym, ◌∙◌}
use Rattle.radio_seats.proofs.Words.{option_copied, SeatTable, is_number, name_in, naming_of, named_at}
use Rattle.radio_seats.proofs.RowLemmas.{names_there, nobody_names}
use Rattle.radio_seats.proofs.seats.Seats.named_at.Goals as goal

pub returns-in_default : goal.returns-in_default
returns-in_default c =
    let name = name_in c.self.inside.mounts.mounts in
    sym (ap (λ (b : SeatTable). named_at b.seats c.args.mount.now) (sym c.self.view_is)
    ∙ nobody_names name c.args.mount.now (λ k. c.number.ensures.only k ∙ ap (λ n. is_number n k) c.in_default.is) c.self.inside.rows)

pub returns-in-Some-get : goal.returns-in-Some-get
returns-in-Some-get c =
    let name = name_in c.self.inside.mounts.mounts in
    let number = c.in-Some.number in
    ap naming_of (sym (ap option_copied c.in-Some-get.is) ∙ c.get.ensures) ∙ c.self.invariant.counted.naming number
    ∙ sym (ap (λ (b : SeatTable). named_at b.seats c.args.mount.now) (sym c.self.view_is)
    ∙ names_there name c.args.mount.now number (λ k. c.number.ensures.only k ∙ ap (λ n. is_number n k) c.in-Some.is) c.self.inside.rows)
