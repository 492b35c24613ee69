use Rattle.radio_core.proofs.Words.{run_after}
use Rattle.radio_core.proofs.Sound.SoundRuns.{sound_run}
use Rattle.radio_core.proofs.Sessions.SessionSteps.{sessions_step, keeps_settings}
use Rattle.radio_core.proofs.laws.sessions_are_their_sources.Goals as goal

pub returns-clause-steps : goal.returns-clause-steps
returns-clause-steps c settings lists events event = sessions_step (run_after settings lists events) (sound_run settings lists events) event

pub returns-clause-settings : goal.returns-clause-settings
returns-clause-settings c settings lists events event = keeps_settings (run_after settings lists events) (sound_run settings lists events) event
