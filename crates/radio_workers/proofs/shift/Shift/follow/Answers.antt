use Rattle.radio_workers.proofs.Doings.{done_then}
use Rattle.radio_workers.proofs.shift.Shift.follow.Goals as goal

pub returns-clause-does : goal.returns-clause-does
returns-clause-does g c = done_then g.S.SharedServer.steps g.S.SharedServer.refuses _ _ _ c.take_in.ensures.does c.make_turn.ensures.does
