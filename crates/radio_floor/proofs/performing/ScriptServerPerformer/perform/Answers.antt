use Rattle.radio_floor.proofs.ScriptStateLemmas.{performs-ok, performs-label, with_web}
use Rattle.radio_floor.proofs.performing.ScriptServerPerformer.perform.Goals as goal

pub returns-clause-ok : goal.returns-clause-ok
returns-clause-ok c = with_web _ _ _ _ c.perform_delivery.ensures.web (performs-ok _ _ _ _ _ _ _ _ _ c.perform_delivery.ensures.performs)

pub returns-clause-label : goal.returns-clause-label
returns-clause-label c fault = (c.perform_delivery.ensures.web, performs-label _ _ _ _ _ _ _ _ _ c.perform_delivery.ensures.performs fault)
