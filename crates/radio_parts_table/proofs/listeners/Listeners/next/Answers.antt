use Rattle.std.proofs.Common.{ap, sym, subst, ◌∙◌}
use Rattle.radio_parts_table.proofs.Words.{IsStrictlySortedBy, nat_cmp, next_number, AreByNumber, numbers_heard, places_in, Listening}
use Rattle.radio_parts_table.proofs.LaggingTurns.{next_heard}
use Rattle.radio_parts_table.proofs.listeners.Listeners.next.Goals as goal

pub returns-clause-next : goal.returns-clause-next
returns-clause-next c =
    let i = c.self.inside in
    c.next.ensures.next ∙ sym (next_heard (places_in i.parts.attached) c.args.last i.seats.seats)
    ∙ ap (λ (b : Listening). next_number b.seats c.args.last) c.self.view_is

pub returns-clause-rising : goal.returns-clause-rising
returns-clause-rising c =
    let i = c.self.inside in
    subst (λ (b : Listening). AreByNumber b.seats) c.self.view_is
    (subst (IsStrictlySortedBy nat_cmp) (sym (numbers_heard (places_in i.parts.attached) i.seats.seats)) c.next.ensures.rising)
