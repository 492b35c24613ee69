use Rattle.radio_core.proofs.Words.{run_after}
use Rattle.radio_core.proofs.Sound.SoundRuns.{sound_run}
use Rattle.radio_core.proofs.Clients.FinishLemmas.{others_hold}
use Rattle.radio_core.proofs.Seats.LostSeats.{loses_no_seat_else}
use Rattle.radio_core.proofs.Clients.ReplyLemmas.{replies_fit}
use Rattle.radio_core.proofs.laws.events_are_of_their_clients.Goals as goal

pub returns-clause-own : goal.returns-clause-own
returns-clause-own c settings lists events event = replies_fit (run_after settings lists events) (sound_run settings lists events) event

pub returns-clause-others : goal.returns-clause-others
returns-clause-others c settings lists events event = others_hold (run_after settings lists events) (sound_run settings lists events) event

pub returns-clause-seats : goal.returns-clause-seats
returns-clause-seats c settings lists events event = loses_no_seat_else (run_after settings lists events) (sound_run settings lists events) event
