use Rattle.radio_floor.proofs.ExchangeLemmas as lemmas
use Rattle.radio_floor.proofs.exchange_laws.cores_exchange_as_their_states.Goals as goal

pub returns : goal.returns
returns c = lemmas.cores_exchange
