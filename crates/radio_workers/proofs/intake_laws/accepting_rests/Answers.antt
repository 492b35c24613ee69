use Rattle.std.proofs.Common.{arith}
use Rattle.radio_workers.proofs.Words.{nat_tests}
use Rattle.radio_workers.proofs.AcceptingLemmas.{counted}
use Rattle.radio_workers.proofs.intake_laws.accepting_rests.Goals as goal

pub returns-clause-end : goal.returns-clause-end
returns-clause-end c tries = grind (arith, nat_tests, counted tries)
