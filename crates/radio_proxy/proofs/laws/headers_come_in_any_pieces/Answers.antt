use Rattle.radio_proxy.proofs.LawLemmas.{any_pieces}
use Rattle.radio_proxy.proofs.laws.headers_come_in_any_pieces.Goals as goal

pub returns : goal.returns
returns c = any_pieces
