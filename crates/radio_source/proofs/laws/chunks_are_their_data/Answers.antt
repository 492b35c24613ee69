use Rattle.radio_source.proofs.ChunkedLemmas.{chunks_lead}
use Rattle.radio_source.proofs.laws.chunks_are_their_data.Goals as goal

pub returns-clause-found : goal.returns-clause-found
returns-clause-found c chunks valid = (chunks_lead chunks valid).brings

pub returns-clause-place : goal.returns-clause-place
returns-clause-place c chunks valid = (chunks_lead chunks valid).goes
