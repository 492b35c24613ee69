use Rattle.radio_session.proofs.CutLemmas as lemmas
use Rattle.radio_session.proofs.laws.cuts_do_not_matter.Goals as goal

pub returns-clause-alike : goal.returns-clause-alike
returns-clause-alike c =
    lemmas.cuts_do_not_matter c.blocks_are_the_data.ensures.joined c.pieces_are_joined.ensures.place c.pieces_are_joined.ensures.found
    c.readings_agree.ensures.requests c.settled.ensures.requests c.heads_lie_within.ensures.requests

pub returns-clause-as_one : goal.returns-clause-as_one
returns-clause-as_one c =
    lemmas.pieces_are_heard_as_one c.blocks_are_the_data.ensures.joined c.pieces_are_joined.ensures.place c.pieces_are_joined.ensures.found
    c.readings_agree.ensures.requests c.settled.ensures.requests c.heads_lie_within.ensures.requests
