use Rattle.radio_proxy.proofs.LawLemmas.{lines}
use Rattle.radio_proxy.proofs.laws.headers_are_lines.Goals as goal

pub returns : goal.returns
returns c = lines
