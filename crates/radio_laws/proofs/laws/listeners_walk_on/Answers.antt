use Rattle.radio_laws.proofs.Words.{sound_run, run_after}
use Rattle.radio_laws.proofs.Seats.LimitLemmas.{within_run}
use Rattle.radio_laws.proofs.Seats.ListsLemmas.{sitters_run}
use Rattle.radio_laws.proofs.Seats.WalkingOnLemmas.{walk_on, moves_are_whole}
use Rattle.radio_laws.proofs.laws.listeners_walk_on.Goals as goal

pub returns-clause-turns : goal.returns-clause-turns
returns-clause-turns c settings lists events event =
    walk_on (run_after settings lists events) (sound_run settings lists events) (within_run settings lists events) (sitters_run settings lists events) event

pub returns-clause-whole : goal.returns-clause-whole
returns-clause-whole c settings lists events event = moves_are_whole (run_after settings lists events) (sound_run settings lists events) event
