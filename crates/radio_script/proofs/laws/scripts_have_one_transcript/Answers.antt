use Rattle.radio_script.proofs.LawLemmas.{one_transcript}
use Rattle.radio_script.proofs.laws.scripts_have_one_transcript.Goals as goal

pub returns : goal.returns
returns g c = one_transcript g.P.Performer.performs
