use Rattle.std.proofs.Common.{arith, rules}
use Rattle.radio_script.proofs.Words.{common_steps, escaped}
use Rattle.radio_script.proofs.escapes.push_escaped.Goals as goal

pub loop-b-init : goal.loop-b-init
loop-b-init c = grind (arith, common_steps)

pub returns-in_err-push_escape-clause-ok : goal.returns-in_err-push_escape-clause-ok
returns-in_err-push_escape-clause-ok c = search rules

pub returns-in_err-push_escape-clause-front : goal.returns-in_err-push_escape-clause-front
returns-in_err-push_escape-clause-front c = grind (arith, common_steps)

pub loop-b-preserved : goal.loop-b-preserved
loop-b-preserved c = grind (arith, common_steps)

pub returns-clause-ok : goal.returns-clause-ok
unfolding escaped
returns-clause-ok c = grind (arith, common_steps)

pub returns-clause-front : goal.returns-clause-front
returns-clause-front c = grind (arith, common_steps)
