use Rattle.radio_relay.proofs.BareLemmas as lemmas
use Rattle.radio_relay.proofs.laws.pulls_are_bare.Goals as goal

pub returns-clause-plain : goal.returns-clause-plain
returns-clause-plain c = lemmas.plain_is_sound

pub returns-clause-woven : goal.returns-clause-woven
returns-clause-woven c = lemmas.woven_is_bare c.unwoven_streams.ensures.sound c.unwoven_streams.ensures.texts
