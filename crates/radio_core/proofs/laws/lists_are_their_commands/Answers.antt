use Rattle.radio_core.proofs.Words.{run_after}
use Rattle.radio_core.proofs.Commands.ListsSteps.{lists_step}
use Rattle.radio_core.proofs.Sound.SoundRuns.{sound_run}
use Rattle.radio_core.proofs.laws.lists_are_their_commands.Goals as goal

pub returns : goal.returns
returns c = record { steps = λ settings lists events event. lists_step (run_after settings lists events) (sound_run settings lists events) event }
