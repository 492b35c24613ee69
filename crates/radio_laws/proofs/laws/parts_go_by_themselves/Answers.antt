use Rattle.radio_laws.proofs.Words.{run_after, sound_run}
use Rattle.radio_laws.proofs.Locality.PartLemmas.{parts_draw, parts_receive, parts_titled}
use Rattle.radio_laws.proofs.laws.parts_go_by_themselves.Goals as goal

pub returns-clause-draws : goal.returns-clause-draws
returns-clause-draws c settings lists events p id room seat of has =
    parts_draw (run_after settings lists events) (sound_run settings lists events) p of id room seat has

pub returns-clause-blocks : goal.returns-clause-blocks
returns-clause-blocks c settings lists events p session block of has =
    parts_receive (run_after settings lists events) (sound_run settings lists events) p of session has block

pub returns-clause-titles : goal.returns-clause-titles
returns-clause-titles c settings lists events p session text of has =
    parts_titled (run_after settings lists events) (sound_run settings lists events) p of session has text
