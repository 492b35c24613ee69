use Rattle.radio_stations.proofs.WorkLemmas.{passes_of_work}
use Rattle.radio_stations.proofs.laws.passes_are_of_their_work.Goals as goal

pub returns : goal.returns
returns c = passes_of_work c.passes_gain_what_was_applied.ensures
