use Rattle.radio_workers.proofs.Doings.{done_then}
use Rattle.radio_workers.proofs.shift.Shift.make_turn.Goals as goal

pub returns : goal.returns
returns g c =
    let steps = g.S.SharedServer.steps in
    let refuses = g.S.SharedServer.refuses in
    record {
      does = done_then steps refuses _ _ _ (done_then steps refuses _ _ _ c.serve_all.ensures.does c.part_sources.ensures.does) c.close_oldest.ensures.does;
    }
