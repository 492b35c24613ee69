use Rattle.radio_laws.proofs.Locality.OwnStepLemmas.{own_steps, own_answers}
use Rattle.radio_laws.proofs.laws.own_steps_are_the_servers.Goals as goal

pub returns-clause-steps : goal.returns-clause-steps
returns-clause-steps c = own_steps

pub returns-clause-answered : goal.returns-clause-answered
returns-clause-answered c = own_answers
