use Rattle.radio_laws.proofs.Words.{run_after, sound_run}
use Rattle.radio_laws.proofs.Ends.GoneLemmas.{has_left, strays, stays_gone}
use Rattle.radio_laws.proofs.laws.who_left_is_gone.Goals as goal

pub returns-clause-left : goal.returns-clause-left
returns-clause-left c settings lists events id = has_left settings lists events id

pub returns-clause-strays : goal.returns-clause-strays
returns-clause-strays c settings lists events event id left own = strays (run_after settings lists events) id left.1 event own

pub returns-clause-gone : goal.returns-clause-gone
returns-clause-gone c settings lists events more id left = stays_gone (run_after settings lists events) (sound_run settings lists events) more id left
