use Rattle.radio_fallback.proofs.FaresLemmas.{sit_once}
use Rattle.radio_fallback.proofs.laws.a_carry_seats_users_once.Goals as goal

pub returns : goal.returns
returns c = sit_once
