use Rattle.radio_heads.specs.Head.{ShowsRequest}
use Rattle.radio_heads.specs.Response.{ShowsResponse}
use Rattle.radio_heads.proofs.ReadingLemmas.{is_settled}
use Rattle.radio_heads.proofs.laws.settled.Goals as goal

pub returns-clause-requests : goal.returns-clause-requests
returns-clause-requests c = is_settled ShowsRequest

pub returns-clause-responses : goal.returns-clause-responses
returns-clause-responses c = is_settled ShowsResponse
