use Rattle.radio_fallback.proofs.FaresLemmas.{numbers_kept}
use Rattle.radio_fallback.proofs.laws.a_carry_keeps_numbers.Goals as goal

pub returns : goal.returns
returns c = numbers_kept
