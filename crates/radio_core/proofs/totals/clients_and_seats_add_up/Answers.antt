use Rattle.radio_core.proofs.Numbers.TotalLemmas.{adds_up_run}
use Rattle.radio_core.proofs.totals.clients_and_seats_add_up.Goals as goal

pub returns : goal.returns
returns c = record { add_up = adds_up_run }
