use Rattle.std.proofs.Common.{◌≡◌}
use Rattle.data_tests.proofs.intake.take_until_empty.Given as goal

abbrev pub invariant-loop-line : goal.invariant-loop-line
invariant-loop-line g l = (l.pass.intake ≡ l.intake) × (l.pass.parts ≡ l.initial.pass.parts)
