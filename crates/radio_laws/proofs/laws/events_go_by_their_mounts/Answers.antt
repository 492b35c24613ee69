use Rattle.radio_laws.proofs.Words.{run_after, sound_run}
use Rattle.radio_laws.proofs.Locality.LocalityLemmas.{answers_alike}
use Rattle.radio_laws.proofs.Locality.LeftAlone.{leaves_alone}
use Rattle.radio_laws.proofs.laws.events_go_by_their_mounts.Goals as goal

pub returns-clause-alike : goal.returns-clause-alike
returns-clause-alike c settings others lists files events more within event =
    answers_alike within (run_after others files more) (run_after settings lists events) event

pub returns-clause-alone : goal.returns-clause-alone
returns-clause-alone c settings lists events within event =
    leaves_alone within (run_after settings lists events) (sound_run settings lists events) event
