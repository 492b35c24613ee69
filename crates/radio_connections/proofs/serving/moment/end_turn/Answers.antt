use Rattle.std.proofs.Common.{refl}
use Rattle.radio_connections.proofs.DeedChains.{leaves_nothing}
use Rattle.radio_connections.proofs.Workings.{flushed_none}
use Rattle.radio_connections.proofs.serving.moment.end_turn.Goals as goal

pub returns-then-is_idle : goal.returns-then-is_idle
returns-then-is_idle g c =
    let steps = g.S.Server.steps in
    let rests = c.is_idle.ensures.none c.if-is_idle.true in
    let goes = c.is_idle.ensures.open c.if-is_idle.true in
    let stays = leaves_nothing steps refl (λ over. absurd (over goes)) in
    record { mid = _; left = _; flushed = _; leaves = stays; flushes = flushed_none rests; again = stays }

pub returns : goal.returns
returns g c = record { mid = _; left = _; flushed = _; leaves = c.leave.ensures; flushes = c.flush.ensures; again = c.leave-2.ensures }
