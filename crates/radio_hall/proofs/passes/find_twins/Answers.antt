use Rattle.std.proofs.Common.{get_or, ◌-◌, arith}
use Rattle.radio_hall.proofs.Words.{stamp}
use Rattle.radio_hall.proofs.Settled.{counted_twice, neighbour}
use Rattle.radio_hall.proofs.passes.find_twins.Goals as goal

pub returns-then-is-clause-some : goal.returns-then-is-clause-some
returns-then-is-clause-some c =
    let xs = c.args.sorted.now in
    let i = c.loop-i.i in
    counted_twice xs (i - 1) (get_or xs i (stamp 0 0)) (omega (arith, c.loop-i.auto.i, c.loop-i-test.true)) (c.is.ensures.0 c.if-is.true)
    (neighbour xs i c.loop-i.auto.i)
