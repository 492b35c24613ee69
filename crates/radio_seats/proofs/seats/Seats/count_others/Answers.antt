use Rattle.std.proofs.Common.{sym, ◌∙◌, arith}
use Rattle.radio_seats.proofs.OtherLemmas.{count_others, count_all}
use Rattle.radio_seats.proofs.seats.Seats.count_others.Goals as goal

pub returns-then-sits_at : goal.returns-then-sits_at
returns-then-sits_at c =
    let others = count_others c.args.self.now.seats c.args.id c.args.mount.now c.count-all.ensures.rising (sym c.sits_at.ensures ∙ c.if-sits_at.true) in
    omega (arith, others, c.saturating_sub.ensures, c.count-all.ensures.count)

pub returns-else-sits_at : goal.returns-else-sits_at
returns-else-sits_at c =
    c.count-all.ensures.count
    ∙ sym (count_all c.args.self.now.seats c.args.id c.args.mount.now c.count-all.ensures.rising (sym c.sits_at.ensures ∙ c.if-sits_at.false))
