use Rattle.radio_merge.proofs.Covering.{made_by_the_control}
use Rattle.radio_merge.proofs.laws.the_control_makes_the_rest.Goals as goal

pub returns : goal.returns
returns c = made_by_the_control
