use Rattle.std.proofs.Common.{refl}
use Rattle.radio_session.proofs.FailingLemmas.{hearing_fails_nothing}
use Rattle.radio_session.proofs.laws.only_refused_calls_fail.Goals as goal

pub returns : goal.returns
returns c = record { read = hearing_fails_nothing; written = λ conversation reply. refl }
