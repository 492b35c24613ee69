use Rattle.radio_workers.proofs.Words.{nothing_yet}
use Rattle.radio_workers.proofs.Doings.{done_close, done_then}
use Rattle.radio_workers.proofs.shift.Shift.close_oldest.Goals as goal

pub oldest-init : goal.oldest-init
oldest-init g c = nothing_yet

pub oldest-preserved : goal.oldest-preserved
oldest-preserved g c =
    let before = c.oldest.self in
    let after = c.close_first_lingering.new.self in
    done_then g.S.SharedServer.steps g.S.SharedServer.refuses _ _ _ c.oldest.invariant
    (done_close g.S.SharedServer.steps g.S.SharedServer.refuses before.worker after.worker before.sources.items before.conns.items after.sources.items after.conns.items
    c.close_first_lingering.ensures.worker c.close_first_lingering.ensures.oldest)
