use Rattle.radio_stations.proofs.RunningLemmas.{running_hear_slices}
use Rattle.radio_stations.proofs.laws.running_stations_hear_slices.Goals as goal

pub returns : goal.returns
returns g c = running_hear_slices c.stations_hear_slices.ensures.settled g.row.W.Denot
