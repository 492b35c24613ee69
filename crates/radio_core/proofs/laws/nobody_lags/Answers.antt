use Rattle.radio_core.proofs.Kept.KeptRuns.{near_run}
use Rattle.radio_core.proofs.laws.nobody_lags.Goals as goal

pub returns : goal.returns
returns c = record { near = near_run }
