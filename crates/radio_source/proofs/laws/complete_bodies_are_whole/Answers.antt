use Rattle.radio_source.proofs.WholeLemmas.{ended_is_body}
use Rattle.radio_source.proofs.laws.complete_bodies_are_whole.Goals as goal

pub returns : goal.returns
returns c = ended_is_body
