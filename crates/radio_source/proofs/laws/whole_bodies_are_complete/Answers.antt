use Rattle.radio_source.proofs.ChunkedLemmas.{body_leads, body_passed}
use Rattle.radio_source.proofs.laws.whole_bodies_are_complete.Goals as goal

pub returns-clause-found : goal.returns-clause-found
returns-clause-found c b valid = (body_leads b valid).brings

pub returns-clause-place : goal.returns-clause-place
returns-clause-place c b valid = (body_leads b valid).goes

pub returns-clause-passed : goal.returns-clause-passed
returns-clause-passed c = body_passed
