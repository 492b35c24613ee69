use Rattle.radio_core.proofs.Kept.CoreReplyLemmas.{cores_by_states}
use Rattle.radio_core.proofs.laws.cores_go_by_their_states.Goals as goal

pub returns : goal.returns
returns c = cores_by_states
