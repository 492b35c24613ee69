use Rattle.radio_heads.proofs.ReadingLemmas.{IsHeadEnd-within}
use Rattle.radio_heads.proofs.laws.heads_lie_within.Goals as goal

pub returns-clause-requests : goal.returns-clause-requests
returns-clause-requests c bytes parts n h = IsHeadEnd-within bytes n h.front.end

pub returns-clause-responses : goal.returns-clause-responses
returns-clause-responses c bytes parts n h = IsHeadEnd-within bytes n h.front.end
