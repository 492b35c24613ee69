use Rattle.radio_listing.proofs.LawLemmas.{alike}
use Rattle.radio_listing.proofs.laws.sight_is_kept.Goals as goal

pub returns : goal.returns
returns c = alike
