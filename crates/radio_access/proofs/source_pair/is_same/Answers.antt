use Rattle.std.proofs.lemmas.Bool.Decides.{same_from_decides}
use Rattle.std.proofs.lemmas.Slice.Eq.{bytes_eq-Decides}
use Rattle.radio_access.proofs.source_pair.is_same.Goals as goal

pub returns : goal.returns
returns c = same_from_decides c.is_same_secret.result _ c.is_same_secret.ensures (bytes_eq-Decides _ _)
