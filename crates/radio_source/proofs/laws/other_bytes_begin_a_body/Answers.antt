use Rattle.radio_source.proofs.OpenLemmas.{begins_a_body}
use Rattle.radio_source.proofs.laws.other_bytes_begin_a_body.Goals as goal

pub returns : goal.returns
returns c = begins_a_body
