use Rattle.radio_hall.proofs.Weaving.{settled_are_woven}
use Rattle.radio_hall.proofs.laws.settled_histories_are_woven.Goals as goal

pub returns : goal.returns
returns c = settled_are_woven
