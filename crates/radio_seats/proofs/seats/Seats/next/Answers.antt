use Rattle.std.proofs.Common.{Option, ap, sym, subst, ◌∙◌}
use Rattle.radio_seats.proofs.Words.{option_copied, option_map, SeatTable, name_in, ListenerRow, next_number, AreByNumber}
use Rattle.radio_seats.proofs.OtherLemmas.{next_shown}
use Rattle.radio_seats.proofs.RowLemmas.{rising_shown}
use Rattle.radio_seats.proofs.seats.Seats.next.Goals as goal

pub returns-in-Some-clause-next : goal.returns-in-Some-clause-next
returns-in-Some-clause-next c =
    ap (λ (found : Option ListenerRow). option_map (λ (row : ListenerRow). row.id) found) (sym (ap option_copied c.in-Some.is) ∙ c.after.ensures.next)
    ∙ sym (ap (λ (b : SeatTable). next_number b.seats c.args.last) (sym c.self.view_is)
    ∙ next_shown (name_in c.self.inside.mounts.mounts) c.args.last c.self.inside.rows)

pub returns-in-Some-clause-rising : goal.returns-in-Some-clause-rising
returns-in-Some-clause-rising c =
    subst (λ (b : SeatTable). AreByNumber b.seats) c.self.view_is (rising_shown (name_in c.self.inside.mounts.mounts) c.self.inside.rows c.after.ensures.rising)

pub returns-in-None-clause-next : goal.returns-in-None-clause-next
returns-in-None-clause-next c =
    ap (λ (found : Option ListenerRow). option_map (λ (row : ListenerRow). row.id) found) (sym (ap option_copied c.in-None.is) ∙ c.after.ensures.next)
    ∙ sym (ap (λ (b : SeatTable). next_number b.seats c.args.last) (sym c.self.view_is)
    ∙ next_shown (name_in c.self.inside.mounts.mounts) c.args.last c.self.inside.rows)

pub returns-in-None-clause-rising : goal.returns-in-None-clause-rising
returns-in-None-clause-rising c =
    subst (λ (b : SeatTable). AreByNumber b.seats) c.self.view_is (rising_shown (name_in c.self.inside.mounts.mounts) c.self.inside.rows c.after.ensures.rising)
