use Rattle.std.proofs.Common.{◌≡◌}
use Rattle.hall_tests.proofs.workers.Rush.fill.Given as goal

-- the pass is of this intake, and has its parts
abbrev pub invariant-times : goal.invariant-times
invariant-times g l = (l.pass.intake ≡ l.intake) × (l.pass.parts ≡ l.initial.pass.parts)
