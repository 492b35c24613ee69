use Rattle.radio_heads.proofs.ReadingLemmas.{IsUnfinished-front}
use Rattle.radio_heads.proofs.laws.fronts_are_unfinished.Goals as goal

pub returns : goal.returns
returns c = IsUnfinished-front
