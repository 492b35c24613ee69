use Rattle.radio_source.proofs.ChunkedLemmas.{sized_data, sized_open, sized_ended, sized_passed}
use Rattle.radio_source.proofs.laws.sized_bodies.Goals as goal

pub returns-clause-found : goal.returns-clause-found
returns-clause-found c = sized_data

pub returns-clause-open : goal.returns-clause-open
returns-clause-open c = sized_open

pub returns-clause-ended : goal.returns-clause-ended
returns-clause-ended c = sized_ended

pub returns-clause-passed : goal.returns-clause-passed
returns-clause-passed c = sized_passed
