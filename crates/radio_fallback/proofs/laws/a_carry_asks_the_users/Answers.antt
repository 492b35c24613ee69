use Rattle.radio_fallback.proofs.FaresLemmas.{had_seats}
use Rattle.radio_fallback.proofs.laws.a_carry_asks_the_users.Goals as goal

pub returns : goal.returns
returns c = had_seats
