use Rattle.radio_log.proofs.ReadLemmas.{same_logs}
use Rattle.radio_log.proofs.laws.a_log_has_one_reading.Goals as goal

pub returns : goal.returns
returns c = same_logs c.written_peers.ensures
