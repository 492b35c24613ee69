use Rattle.radio_hall.proofs.Words.{opening}
use Rattle.radio_hall.proofs.settling.settle_family.Goals as goal

pub returns-in-Err-clause-fault : goal.returns-in-Err-clause-fault
returns-in-Err-clause-fault g c = c.in-Err.ensures.fault (opening c.args.settings c.args.lists)
