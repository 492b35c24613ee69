use Rattle.radio_icy.proofs.BareLemmas.{heard_by_pieces-concat, after_pieces-concat}
use Rattle.radio_icy.proofs.laws.cut_streams.Goals as goal

pub returns-clause-heard : goal.returns-clause-heard
returns-clause-heard c = heard_by_pieces-concat

pub returns-clause-after : goal.returns-clause-after
returns-clause-after c = after_pieces-concat
