use Rattle.radio_parts_mount.proofs.GrantLemmas.{own_after_attach}
use Rattle.radio_parts_mount.proofs.laws.grants_come_first.Goals as goal

pub returns : goal.returns
returns c = λ queue mount items. own_after_attach queue mount items
