use Rattle.radio_laws.proofs.Ends.ToldLemmas.{finished_hold}
use Rattle.radio_laws.proofs.laws.finished_are_told.Goals as goal

pub returns : goal.returns
returns c = record { finished = λ settings lists events event. finished_hold settings lists events event }
