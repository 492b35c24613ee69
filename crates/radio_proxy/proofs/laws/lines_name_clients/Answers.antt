use Rattle.radio_proxy.proofs.LawLemmas.{names}
use Rattle.radio_proxy.proofs.laws.lines_name_clients.Goals as goal

pub returns : goal.returns
returns c = names
