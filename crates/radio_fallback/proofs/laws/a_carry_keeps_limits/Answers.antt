use Rattle.radio_fallback.proofs.FaresLemmas.{keeps_limit}
use Rattle.radio_fallback.proofs.laws.a_carry_keeps_limits.Goals as goal

pub returns : goal.returns
returns c = keeps_limit
