use Rattle.radio_session.proofs.HearingLemmas as lemmas
use Rattle.radio_session.proofs.laws.hearing_is_one.Goals as goal

pub returns : goal.returns
returns c = lemmas.hearing_is_one c.readings_agree.ensures.requests
