use Rattle.radio_icy.proofs.StreamLemmas.{IsWoven-woven_by_calls}
use Rattle.radio_icy.proofs.UnwovenLemmas.{untitled_block}
use Rattle.radio_icy.proofs.laws.woven_streams.Goals as goal

pub returns-clause-woven : goal.returns-clause-woven
returns-clause-woven c = IsWoven-woven_by_calls

pub returns-clause-untitled : goal.returns-clause-untitled
returns-clause-untitled c = untitled_block
