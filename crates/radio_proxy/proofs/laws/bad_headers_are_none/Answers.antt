use Rattle.radio_proxy.proofs.LawLemmas.{bad}
use Rattle.radio_proxy.proofs.laws.bad_headers_are_none.Goals as goal

pub returns : goal.returns
returns c = bad
