use Rattle.radio_heads.proofs.FoundLemmas.{request_is_head, response_is_head}
use Rattle.radio_heads.proofs.laws.heads_are_found.Goals as goal

pub returns-clause-requests : goal.returns-clause-requests
returns-clause-requests c = request_is_head

pub returns-clause-responses : goal.returns-clause-responses
returns-clause-responses c = response_is_head
