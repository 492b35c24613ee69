use Rattle.std.proofs.Common.{◌≡◌}
use Rattle.data_tests.proofs.intake.take_many.Given as goal

abbrev pub invariant-loop : goal.invariant-loop
invariant-loop g l = (l.pass.intake ≡ l.intake) × (l.pass.parts ≡ l.initial.pass.parts)
