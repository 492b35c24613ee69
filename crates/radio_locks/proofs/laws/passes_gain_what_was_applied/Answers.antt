use Rattle.radio_locks.proofs.PassLemmas.{gained}
use Rattle.radio_locks.proofs.laws.passes_gain_what_was_applied.Goals as goal

pub returns : goal.returns
returns c = gained
