use Rattle.radio_laws.proofs.Words.{run_after}
use Rattle.radio_laws.proofs.Denials.LimitDenials.{limits_deny, limits_admit}
use Rattle.radio_laws.proofs.Seats.LimitLemmas.{limits_run}
use Rattle.radio_laws.proofs.laws.limits_are_kept.Goals as goal

pub returns-clause-within : goal.returns-clause-within
returns-clause-within c settings lists events = limits_run settings lists events

pub returns-clause-denied : goal.returns-clause-denied
returns-clause-denied c settings lists events event = limits_deny (run_after settings lists events) event

pub returns-clause-admitted : goal.returns-clause-admitted
returns-clause-admitted c settings lists events event = limits_admit (run_after settings lists events) event
