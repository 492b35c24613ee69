use Rattle.radio_script.proofs.LawLemmas.{goes_on_as_it_began}
use Rattle.radio_script.proofs.laws.transcripts_go_on_as_they_began.Goals as goal

pub returns : goal.returns
returns g c = goes_on_as_it_began g.P.Performer.performs
