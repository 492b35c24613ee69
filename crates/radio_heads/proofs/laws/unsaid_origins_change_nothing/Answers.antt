use Rattle.std.proofs.Common.{refl}
use Rattle.radio_heads.proofs.WebLemmas.{stream_unsaid}
use Rattle.radio_heads.proofs.laws.unsaid_origins_change_nothing.Goals as goal

pub returns : goal.returns
returns c = record { stream = stream_unsaid; text = λ kind body. refl }
