use Rattle.std.proofs.Common.{◌<◌, subst, sym}
use Rattle.radio_workers.proofs.Words.{PassRecord}
use Rattle.radio_workers.proofs.Balances.{splits}
use Rattle.radio_workers.proofs.intake.Intake.split.Goals as goal

pub another-transfers-requires-clause-rule : goal.another-transfers-requires-clause-rule
another-transfers-requires-clause-rule g c = splits _ _ (subst (λ (pass : PassRecord g.row.L.Denot). 1 < pass.parts) (sym c.pass.view_is) c.requires.parts)
