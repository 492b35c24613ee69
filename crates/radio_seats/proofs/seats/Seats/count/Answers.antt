use Rattle.std.proofs.Common.{ap, sym, subst, ◌∙◌}
use Rattle.radio_seats.proofs.Words.{option_copied, SeatTable, is_number, name_in, sitting_of, count_at, AreByNumber}
use Rattle.radio_seats.proofs.RowLemmas.{counts_there, nobody_there, rising_shown}
use Rattle.radio_seats.proofs.seats.Seats.count.Goals as goal

pub returns-in_default-clause-count : goal.returns-in_default-clause-count
returns-in_default-clause-count c =
    let name = name_in c.self.inside.mounts.mounts in
    sym (ap (λ (b : SeatTable). count_at b.seats c.args.mount.now) (sym c.self.view_is)
    ∙ nobody_there name c.args.mount.now (λ k. c.number.ensures.only k ∙ ap (λ n. is_number n k) c.in_default.is) c.self.inside.rows)

pub returns-in_default-clause-rising : goal.returns-in_default-clause-rising
returns-in_default-clause-rising c =
    subst (λ (b : SeatTable). AreByNumber b.seats) c.self.view_is (rising_shown (name_in c.self.inside.mounts.mounts) c.self.inside.rows c.len.ensures.rising)

pub returns-in-Some-get-clause-count : goal.returns-in-Some-get-clause-count
returns-in-Some-get-clause-count c =
    let name = name_in c.self.inside.mounts.mounts in
    let rows = c.self.inside.rows in
    let number = c.in-Some.number in
    ap sitting_of (sym (ap option_copied c.in-Some-get.is) ∙ c.get.ensures) ∙ c.self.invariant.counted.sitting number
    ∙ sym (ap (λ (b : SeatTable). count_at b.seats c.args.mount.now) (sym c.self.view_is)
    ∙ counts_there name c.args.mount.now number (λ k. c.number.ensures.only k ∙ ap (λ n. is_number n k) c.in-Some.is) rows)

pub returns-in-Some-get-clause-rising : goal.returns-in-Some-get-clause-rising
returns-in-Some-get-clause-rising c =
    subst (λ (b : SeatTable). AreByNumber b.seats) c.self.view_is (rising_shown (name_in c.self.inside.mounts.mounts) c.self.inside.rows c.len.ensures.rising)
