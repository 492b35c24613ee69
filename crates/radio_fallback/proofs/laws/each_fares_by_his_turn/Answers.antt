use Rattle.radio_fallback.proofs.HisTurn.{by_his_turn}
use Rattle.radio_fallback.proofs.laws.each_fares_by_his_turn.Goals as goal

pub returns : goal.returns
returns c = by_his_turn
