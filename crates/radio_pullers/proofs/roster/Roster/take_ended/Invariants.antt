use Rattle.std.proofs.Common.{◌≡◌}
use Rattle.radio_pullers.proofs.roster.Roster.take_ended.Given as goal

abbrev pub invariant-loop-place : goal.invariant-loop-place
invariant-loop-place g l = l.self.running.items ≡ l.initial.self.running.items
