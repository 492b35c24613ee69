use Rattle.radio_stations.proofs.PullLemmas.{pulls_mean}
use Rattle.radio_stations.proofs.laws.pulls_mean_their_bytes.Goals as goal

pub returns : goal.returns
returns g c = pulls_mean g.S.Server.steps g.S.Server.refuses
