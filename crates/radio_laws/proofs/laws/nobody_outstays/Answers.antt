use Rattle.radio_laws.proofs.Words.{run_after, sound_run}
use Rattle.radio_laws.proofs.Seats.LimitLemmas.{within_run}
use Rattle.radio_laws.proofs.Seats.ListsLemmas.{sitters_run}
use Rattle.radio_laws.proofs.Ends.TickEnds.{nobody_outstays}
use Rattle.radio_parts_station.proofs.TimeoutLemmas.{tests_are_in_numbers}
use Rattle.radio_laws.proofs.laws.nobody_outstays.Goals as goal

pub returns : goal.returns
returns c = record {
  in_time = λ settings lists events ms.
      nobody_outstays (run_after settings lists events) (sound_run settings lists events) (within_run settings lists events)
      (sitters_run settings lists events) ms;
  tests = tests_are_in_numbers;
}
