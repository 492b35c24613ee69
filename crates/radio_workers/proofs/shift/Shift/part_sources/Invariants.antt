use Rattle.std.proofs.Common.{◌≡◌, ◌+◌, length}
use Rattle.radio_workers.proofs.Words.{WorkerHasDone, shift_of}
use Rattle.radio_workers.proofs.shift.Shift.part_sources.Given as goal

abbrev pub invariant-started : goal.invariant-started
invariant-started g l =
    (length l.self.sources.items + length l.self.conns.items ≡ length l.initial.self.sources.items + length l.initial.self.conns.items)
    × (l.self.worker ≡ l.initial.self.worker)
    × WorkerHasDone g.S.SharedServer.steps g.S.SharedServer.refuses (shift_of l.initial.self.worker l.initial.self.sources.items l.initial.self.conns.items)
    (shift_of l.self.worker l.self.sources.items l.self.conns.items)
