use Rattle.radio_workers.proofs.Words.{WorkerHasDone, shift_of}
use Rattle.radio_workers.proofs.shift.Shift.close_oldest.Given as goal

abbrev pub invariant-oldest : goal.invariant-oldest
invariant-oldest g l =
    WorkerHasDone g.S.SharedServer.steps g.S.SharedServer.refuses (shift_of l.initial.self.worker l.initial.self.sources.items l.initial.self.conns.items)
    (shift_of l.self.worker l.self.sources.items l.self.conns.items)
