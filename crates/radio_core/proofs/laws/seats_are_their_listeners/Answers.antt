use Rattle.radio_core.proofs.Words.{run_after}
use Rattle.radio_core.proofs.Sound.SoundRuns.{sound_run}
use Rattle.radio_core.proofs.Seats.SeatSteps.{seats_step}
use Rattle.radio_core.proofs.laws.seats_are_their_listeners.Goals as goal

pub returns : goal.returns
returns c = record { steps = λ settings lists events event. seats_step (run_after settings lists events) (sound_run settings lists events) event }
