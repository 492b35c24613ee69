use Rattle.radio_icy.proofs.WeavingLemmas.{woven_both, after_both, woven_by_more, after_more}
use Rattle.radio_icy.proofs.laws.joined_weaving.Goals as goal

pub returns-clause-sound : goal.returns-clause-sound
returns-clause-sound c = woven_both

pub returns-clause-after_sound : goal.returns-clause-after_sound
returns-clause-after_sound c = after_both

pub returns-clause-calls : goal.returns-clause-calls
returns-clause-calls c = woven_by_more

pub returns-clause-after_calls : goal.returns-clause-after_calls
returns-clause-after_calls c = after_more
