use Rattle.radio_laws.proofs.Words.{run_after}
use Rattle.radio_laws.proofs.Seats.OnDemandLemmas.{waits_on_demand, wanted_are_sat_at}
use Rattle.radio_laws.proofs.laws.mounts_wait_on_demand.Goals as goal

pub returns-clause-waits : goal.returns-clause-waits
returns-clause-waits c settings mount = waits_on_demand settings mount

pub returns-clause-wanted : goal.returns-clause-wanted
returns-clause-wanted c settings lists events = wanted_are_sat_at (run_after settings lists events)
