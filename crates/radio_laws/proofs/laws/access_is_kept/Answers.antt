use Rattle.radio_laws.proofs.Words.{run_after, sound_run}
use Rattle.radio_laws.proofs.Seats.ListsLemmas.{lists_run}
use Rattle.radio_laws.proofs.Seats.LimitLemmas.{within_run}
use Rattle.radio_laws.proofs.Seats.AccessLemmas.{access_holds}
use Rattle.radio_laws.proofs.laws.access_is_kept.Goals as goal

pub returns : goal.returns
returns c = record {
  access = λ settings lists events event. access_holds (run_after settings lists events) (sound_run settings lists events) (lists_run settings lists events)
      (within_run settings lists events) event;
}
