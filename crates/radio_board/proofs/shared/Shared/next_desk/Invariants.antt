use Rattle.std.proofs.Common.{◌<◌, IfSome, length}
use Rattle.radio_board.proofs.shared.Shared.next_desk.Given as goal

abbrev pub invariant-steps : goal.invariant-steps
invariant-steps l = IfSome l.best (λ best. best.number < length l.self.desks)
