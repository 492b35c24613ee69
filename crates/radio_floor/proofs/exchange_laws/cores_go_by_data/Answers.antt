use Rattle.radio_floor.proofs.CoreDataLemmas as lemmas
use Rattle.radio_floor.proofs.exchange_laws.cores_go_by_data.Goals as goal

pub returns : goal.returns
returns c =
    lemmas.cores_go_by_data c.cores_go_by_their_states.ensures c.sources_are_told_by_their_data.ensures.blocks c.sources_are_told_by_their_data.ensures.ends
