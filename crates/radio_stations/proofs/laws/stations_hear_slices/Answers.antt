use Rattle.std.proofs.Common.{true}
use Rattle.radio_stations.proofs.Words.{IsCalled, WatchedSteps}
use Rattle.radio_stations.proofs.SettledLemmas.{settled_hear_slices}
use Rattle.radio_stations.proofs.StationLemmas.{add_up, hear_slices}
use Rattle.radio_stations.proofs.TurnLemmas.{mean_their_bytes, only_answered}
use Rattle.radio_stations.proofs.WorkLemmas.{work_of_connections}
use Rattle.radio_stations.proofs.laws.stations_hear_slices.Goals as goal

pub returns : goal.returns
returns c =
    let slices = hear_slices c.listeners_hear_slices.ensures.served in
    record {
      slices = slices;
      woven = add_up;
      settled = settled_hear_slices c.passes_are_of_their_work.ensures c.settled_histories_are_woven.ensures add_up slices
          (λ start web worker.
          let steps = WatchedSteps (IsCalled true start) in
          work_of_connections steps web (mean_their_bytes steps c.settled.ensures.requests c.cuts_do_not_matter.ensures.as_one) (only_answered steps)
          worker.first worker.last worker.made worker.roll worker.worked);
    }
