use Rattle.radio_core.proofs.Words.{run_after}
use Rattle.radio_core.proofs.Clients.ArrivalLemmas.{arrivals_stay}
use Rattle.radio_core.proofs.Clients.ClientSteps.{clients_step}
use Rattle.radio_core.proofs.Sound.SoundRuns.{sound_run}
use Rattle.radio_core.proofs.laws.clients_stand_by_their_events.Goals as goal

pub returns-clause-steps : goal.returns-clause-steps
returns-clause-steps c settings lists events event = clients_step (run_after settings lists events) (sound_run settings lists events) event

pub returns-clause-arrivals : goal.returns-clause-arrivals
returns-clause-arrivals c settings lists events event = arrivals_stay (run_after settings lists events) (sound_run settings lists events) event
