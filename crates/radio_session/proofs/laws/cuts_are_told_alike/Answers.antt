use Rattle.radio_session.proofs.CutTellingLemmas as lemmas
use Rattle.radio_session.proofs.laws.cuts_are_told_alike.Goals as goal

pub returns-clause-alike : goal.returns-clause-alike
returns-clause-alike g c =
    lemmas.cuts_are_told_alike g.S.Server.steps c.blocks_are_the_data.ensures.joined c.blocks_are_the_data.ensures.valid
    c.pieces_are_joined.ensures.place c.pieces_are_joined.ensures.found c.settled.ensures.requests c.heads_lie_within.ensures.requests
    c.readings_agree.ensures.requests

pub returns-clause-as_one : goal.returns-clause-as_one
returns-clause-as_one g c =
    lemmas.pieces_are_told_as_one g.S.Server.steps c.blocks_are_the_data.ensures.joined c.blocks_are_the_data.ensures.valid
    c.pieces_are_joined.ensures.place c.pieces_are_joined.ensures.found c.settled.ensures.requests c.heads_lie_within.ensures.requests
    c.readings_agree.ensures.requests
