use Rattle.radio_workers.proofs.Balances.{joins}
use Rattle.radio_workers.proofs.intake.Intake.join.Goals as goal

pub absorb-requires-clause-rule : goal.absorb-requires-clause-rule
absorb-requires-clause-rule g c = joins _ _ _ _ c.pass.invariant.1
