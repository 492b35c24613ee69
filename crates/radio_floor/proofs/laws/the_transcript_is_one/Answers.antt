use Rattle.radio_floor.proofs.Words.{conduct}
use Rattle.radio_script.proofs.LawLemmas.{one_transcript, goes_on_as_it_began}
use Rattle.radio_floor.proofs.OneTranscript.{is_determined}
use Rattle.radio_floor.proofs.laws.the_transcript_is_one.Goals as goal

pub returns-clause-determined : goal.returns-clause-determined
returns-clause-determined c web = is_determined c.hearing_is_one.ensures c.pulling_is_one.ensures.takes c.pulling_is_one.ensures.asks c.pulling_is_one.ensures.goes web

pub returns-clause-one : goal.returns-clause-one
returns-clause-one c web = one_transcript (conduct web) (is_determined c.hearing_is_one.ensures c.pulling_is_one.ensures.takes c.pulling_is_one.ensures.asks c.pulling_is_one.ensures.goes web)

pub returns-clause-goes_on : goal.returns-clause-goes_on
returns-clause-goes_on c web = goes_on_as_it_began (conduct web) (is_determined c.hearing_is_one.ensures c.pulling_is_one.ensures.takes c.pulling_is_one.ensures.asks c.pulling_is_one.ensures.goes web)
