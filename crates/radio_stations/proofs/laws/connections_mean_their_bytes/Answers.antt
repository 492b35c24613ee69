use Rattle.radio_stations.proofs.TurnLemmas.{mean_their_bytes, only_answered}
use Rattle.radio_stations.proofs.laws.connections_mean_their_bytes.Goals as goal

pub returns : goal.returns
returns g c = record {
  clients = mean_their_bytes g.S.Server.steps c.settled.ensures.requests c.cuts_do_not_matter.ensures.as_one;
  strangers = only_answered g.S.Server.steps;
}
