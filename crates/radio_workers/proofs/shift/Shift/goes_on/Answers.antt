use Rattle.radio_workers.proofs.Words.{nothing_yet}
use Rattle.radio_workers.proofs.shift.Shift.goes_on.Goals as goal

pub returns-in-None-clause-does : goal.returns-in-None-clause-does
returns-in-None-clause-does g c = nothing_yet
