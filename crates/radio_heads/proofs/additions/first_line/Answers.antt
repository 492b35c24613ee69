use Rattle.std.proofs.Common.{sym}
use Rattle.radio_heads.proofs.AdditionLemmas.{behind_found, behind_missing}
use Rattle.radio_heads.proofs.additions.first_line.Goals as goal

pub returns-in-Some-clause-behind : goal.returns-in-Some-clause-behind
returns-in-Some-clause-behind c lines = behind_found lines c.args.text.now c.in-Some.place (sym c.in-Some.ensures)

pub returns-in-None-clause-behind : goal.returns-in-None-clause-behind
returns-in-None-clause-behind c lines = behind_missing lines c.args.text.now (sym c.in-None.ensures)
