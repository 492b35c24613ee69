use Rattle.radio_workers.proofs.Words.{HasTakenMore, WorkerHasDone, shift_of}
use Rattle.radio_workers.proofs.shift.Shift.take_in.Given as goal

-- only takings since the loop began, and steps of the worker
abbrev pub invariant-newcomers : goal.invariant-newcomers
invariant-newcomers g l =
    HasTakenMore l.initial.intake_pass l.intake_pass
    × WorkerHasDone g.S.SharedServer.steps g.S.SharedServer.refuses (shift_of l.initial.self.worker l.initial.self.sources.items l.initial.self.conns.items)
    (shift_of l.self.worker l.self.sources.items l.self.conns.items)
