use Rattle.radio_workers.proofs.Words.{nothing_yet}
use Rattle.radio_workers.proofs.Doings.{done_admit}
use Rattle.radio_workers.proofs.shift.Shift.admit.Goals as goal

pub returns-in-Some-clause-does : goal.returns-in-Some-clause-does
returns-in-Some-clause-does g c =
    let before = c.args.self.now in
    done_admit g.S.SharedServer.steps g.S.SharedServer.refuses c.admit.result before.worker c.admit.new.self before.sources.items before.conns.items
    c.admit.new.conns.items c.in-Some.peer _ _ c.in-Some.ensures.fresh.0 c.in-Some.ensures.fresh.1
    (record { web = c.admit.ensures.web; clock = c.admit.ensures.clock.0; patience = c.admit.ensures.clock.1 })
    c.admit.ensures.ok c.admit.ensures.err c.admit.ensures.nobody

pub returns-in_default-clause-does : goal.returns-in_default-clause-does
returns-in_default-clause-does g c = nothing_yet
