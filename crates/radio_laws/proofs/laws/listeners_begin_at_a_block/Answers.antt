use Rattle.radio_laws.proofs.Words.{run_after, sound_run}
use Rattle.radio_laws.proofs.Seats.AccessLemmas.{admission_holds}
use Rattle.radio_laws.proofs.laws.listeners_begin_at_a_block.Goals as goal

pub returns : goal.returns
returns c = record { seated = λ settings lists events event. admission_holds (run_after settings lists events) (sound_run settings lists events) event }
