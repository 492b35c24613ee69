use Rattle.radio_floor.proofs.ToldLemmas as lemmas
use Rattle.radio_floor.proofs.exchange_laws.exchanges_tell_replies.Goals as goal

pub returns : goal.returns
returns c = lemmas.exchanges_tell
