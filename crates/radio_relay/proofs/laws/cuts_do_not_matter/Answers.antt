use Rattle.radio_relay.proofs.CutLemmas as lemmas
use Rattle.radio_relay.proofs.laws.cuts_do_not_matter.Goals as goal

pub returns-clause-cuts : goal.returns-clause-cuts
returns-clause-cuts c =
    lemmas.cuts_do_not_matter c.cut_streams.ensures.heard c.cut_streams.ensures.after c.settled.ensures.responses c.heads_lie_within.ensures.responses
    c.readings_agree.ensures.responses

pub returns-clause-one : goal.returns-clause-one
returns-clause-one c = lemmas.pulling_is_one c.readings_agree.ensures.responses
