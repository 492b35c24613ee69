use Rattle.radio_addr.proofs.LawLemmas.{list_of-fault, list_of-ranges}
use Rattle.radio_addr.proofs.laws.first_bad_lines.Goals as goal

pub returns-clause-fault : goal.returns-clause-fault
returns-clause-fault c = list_of-fault

pub returns-clause-list : goal.returns-clause-list
returns-clause-list c = list_of-ranges
