use Rattle.radio_source.proofs.ChunkedLemmas.{broken_begins_none}
use Rattle.radio_source.proofs.laws.refused_bytes_begin_no_body.Goals as goal

pub returns : goal.returns
returns c = broken_begins_none
