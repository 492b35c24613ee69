use Rattle.std.proofs.Common.{ap, sym, subst, ◌∙◌}
use Rattle.radio_parts_table.proofs.Words.{IsStrictlySortedBy, nat_cmp, count_at, AreByNumber, count_heard, numbers_heard, places_in, Listening}
use Rattle.radio_parts_table.proofs.listeners.Listeners.count.Goals as goal

pub returns-clause-count : goal.returns-clause-count
returns-clause-count c =
    let i = c.self.inside in
    c.count.ensures.count ∙ sym (count_heard (places_in i.parts.attached) c.args.mount.now i.seats.seats)
    ∙ ap (λ (b : Listening). count_at b.seats c.args.mount.now) c.self.view_is

pub returns-clause-rising : goal.returns-clause-rising
returns-clause-rising c =
    let i = c.self.inside in
    subst (λ (b : Listening). AreByNumber b.seats) c.self.view_is
    (subst (IsStrictlySortedBy nat_cmp) (sym (numbers_heard (places_in i.parts.attached) i.seats.seats)) c.count.ensures.rising)
