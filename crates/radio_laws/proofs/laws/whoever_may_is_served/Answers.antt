use Rattle.radio_laws.proofs.Words.{run_after, sound_run}
use Rattle.radio_laws.proofs.Denials.ServiceLemmas.{service_holds, changes_nothing}
use Rattle.radio_laws.proofs.laws.whoever_may_is_served.Goals as goal

pub returns-clause-served : goal.returns-clause-served
returns-clause-served c settings lists events = service_holds c.denials_name_the_first_rule.ensures.allows (run_after settings lists events)
    (sound_run settings lists events)

pub returns-clause-nothing : goal.returns-clause-nothing
returns-clause-nothing c settings lists events event = changes_nothing (run_after settings lists events) event
