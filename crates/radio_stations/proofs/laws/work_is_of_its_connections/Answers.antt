use Rattle.radio_stations.proofs.RoundLemmas.{admissions_are_work, turns_are_work}
use Rattle.radio_stations.proofs.WorkLemmas.{work_of_connections}
use Rattle.radio_stations.proofs.laws.work_is_of_its_connections.Goals as goal

pub returns : goal.returns
returns g c = record {
  admissions = λ web. admissions_are_work g.S.Server.steps web g.S.Server.refuses;
  turns = λ web. turns_are_work g.S.Server.steps web g.S.Server.refuses;
  labels = λ web.
      work_of_connections g.S.Server.steps web c.connections_mean_their_bytes.ensures.clients c.connections_mean_their_bytes.ensures.strangers;
}
