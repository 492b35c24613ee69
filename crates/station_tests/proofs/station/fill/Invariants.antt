use Rattle.std.proofs.Common.{◌≡◌}
use Rattle.station_tests.proofs.station.fill.Given as goal

-- the pass is of this intake, and has its parts
abbrev pub invariant-numbers : goal.invariant-numbers
invariant-numbers g l = (l.intake_pass.intake ≡ l.intake) × (l.intake_pass.parts ≡ l.initial.intake_pass.parts)
