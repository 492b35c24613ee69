use Rattle.std.proofs.Common.{◌≡◌}
use Rattle.hall_tests.proofs.workers.put_all.Given as goal

-- the pass is of this intake, and has its parts
abbrev pub invariant-comers : goal.invariant-comers
invariant-comers g l = (l.pass.intake ≡ l.intake) × (l.pass.parts ≡ l.initial.pass.parts)
