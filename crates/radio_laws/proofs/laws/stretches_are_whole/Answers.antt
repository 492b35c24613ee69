use Rattle.radio_laws.proofs.Words.{run_after, sound_run}
use Rattle.radio_laws.proofs.Seats.MountLemmas.{mounts_kept}
use Rattle.radio_laws.proofs.Streams.StretchLemmas.{stretches_cut, stretches_hold}
use Rattle.radio_laws.proofs.laws.stretches_are_whole.Goals as goal

pub returns-clause-stretches : goal.returns-clause-stretches
returns-clause-stretches c settings lists events = stretches_hold settings lists events

pub returns-clause-cut : goal.returns-clause-cut
returns-clause-cut c settings lists events = stretches_cut settings lists events

pub returns-clause-mounts : goal.returns-clause-mounts
returns-clause-mounts c settings lists events event = mounts_kept (run_after settings lists events) (sound_run settings lists events) event
