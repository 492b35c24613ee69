use Rattle.radio_laws.proofs.Words.{run_after, sound_run}
use Rattle.radio_laws.proofs.Seats.LastMountLemmas.{last_where_he_sits, finished_where_he_sat, ended_by_clock, rows_stay}
use Rattle.radio_laws.proofs.laws.last_mounts_stay.Goals as goal

pub returns-clause-seated : goal.returns-clause-seated
returns-clause-seated c settings lists events = last_where_he_sits (run_after settings lists events)

pub returns-clause-finished : goal.returns-clause-finished
returns-clause-finished c settings lists events event =
    finished_where_he_sat (run_after settings lists events) (sound_run settings lists events) event

pub returns-clause-timed_out : goal.returns-clause-timed_out
returns-clause-timed_out c settings lists events ms = ended_by_clock (run_after settings lists events) (sound_run settings lists events) ms

pub returns-clause-stays : goal.returns-clause-stays
returns-clause-stays c settings lists events event = rows_stay (run_after settings lists events) (sound_run settings lists events) event
