use Rattle.radio_workers.proofs.Balances.{knows}
use Rattle.radio_workers.proofs.intake.Intake.tally.Goals as goal

pub len_as-requires-clause-rule : goal.len_as-requires-clause-rule
len_as-requires-clause-rule g c = knows _ _
