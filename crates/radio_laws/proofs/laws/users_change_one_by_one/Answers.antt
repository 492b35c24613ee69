use Rattle.radio_laws.proofs.Words.{run_after, sound_run}
use Rattle.radio_laws.proofs.Seats.ListsLemmas.{sitters_run}
use Rattle.radio_laws.proofs.Commands.UserChanges.{users_step}
use Rattle.radio_laws.proofs.laws.users_change_one_by_one.Goals as goal

pub returns-clause-steps : goal.returns-clause-steps
returns-clause-steps c settings lists events event = users_step (run_after settings lists events) (sound_run settings lists events) event

pub returns-clause-sitters : goal.returns-clause-sitters
returns-clause-sitters c settings lists events = sitters_run settings lists events
