use Rattle.radio_heads.proofs.AddedLemmas.{added_are_read_back}
use Rattle.radio_heads.proofs.laws.additions_read_back.Goals as goal

pub returns : goal.returns
returns c = added_are_read_back
