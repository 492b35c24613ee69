use Rattle.radio_workers.proofs.Balances.{knows, takes}
use Rattle.radio_workers.proofs.intake.Intake.take.Goals as goal

pub pop_as-requires-clause-rule : goal.pop_as-requires-clause-rule
pop_as-requires-clause-rule g c = (takes _ _ c.pass.invariant.1, knows _ _)
