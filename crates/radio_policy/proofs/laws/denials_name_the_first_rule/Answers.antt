use Rattle.radio_policy.proofs.VerdictLemmas.{Denies-verdict, verdict-Denies, Allows-verdict, verdict-Allows}
use Rattle.radio_policy.proofs.laws.denials_name_the_first_rule.Goals as goal

pub returns-clause-allows : goal.returns-clause-allows
returns-clause-allows c rows = (verdict-Allows rows, Allows-verdict rows)

pub returns-clause-denies : goal.returns-clause-denies
returns-clause-denies c rows rule = (Denies-verdict rows rule, verdict-Denies rows rule)
