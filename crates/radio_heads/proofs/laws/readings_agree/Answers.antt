use Rattle.std.proofs.Common.{sym, ap, ◌∙◌}
use Rattle.httparse.proofs.GrammarLemmas.{request_unique, response_unique}
use Rattle.radio_heads.specs.Head.{ShowsRequest, request_parts}
use Rattle.radio_heads.specs.Response.{ShowsResponse, response_parts}
use Rattle.radio_heads.proofs.ReadingLemmas.{IsUnambiguous, readings_agree}
use Rattle.radio_heads.proofs.laws.readings_agree.Goals as goal

requests_unambiguous : IsUnambiguous ShowsRequest
requests_unambiguous front a b x y =
    x.3 ∙ ap request_parts (request_unique _ _ _ _ _ x.1 y.1).0 ∙ sym y.3

responses_unambiguous : IsUnambiguous ShowsResponse
responses_unambiguous front a b x y =
    x.3 ∙ ap response_parts (response_unique _ _ _ _ _ x.1 y.1).0 ∙ sym y.3

pub returns-clause-requests : goal.returns-clause-requests
returns-clause-requests c = readings_agree ShowsRequest requests_unambiguous

pub returns-clause-responses : goal.returns-clause-responses
returns-clause-responses c = readings_agree ShowsResponse responses_unambiguous
