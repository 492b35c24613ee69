use Rattle.radio_session.proofs.GreetingLemmas as lemmas
use Rattle.radio_session.proofs.laws.who_waits_is_told_to_go_on.Goals as goal

pub returns : goal.returns
returns c = record { waits = lemmas.who_waits_is_told_to_go_on; other = lemmas.nobody_else_is_told_to_go_on }
