use Rattle.std.proofs.Common.{◌∙◌}
use Rattle.radio_laws.proofs.Words.{replies_alike, told_by_plan, control_after}
use Rattle.radio_laws.proofs.Locality.LeftAlone.{control_alone}
use Rattle.radio_laws.proofs.Locality.LentPartLemmas.{lent_agree, core_after, core_can, core_ordered}
use Rattle.radio_laws.proofs.Locality.LocalityLemmas.{answers_alike, controls_alike, steps_alike}
use Rattle.radio_laws.proofs.laws.lent_parts_are_enough.Goals as goal

pub returns-clause-others : goal.returns-clause-others
returns-clause-others c = lent_agree

pub returns-clause-replies : goal.returns-clause-replies
returns-clause-replies c core w lent within event stands agree reach =
    told_by_plan lent event ∙ (answers_alike within lent core event agree reach).0 ∙ replies_alike core w stands event

pub returns-clause-changes : goal.returns-clause-changes
returns-clause-changes c core w lent within event stands agree reach =
    (control_after core event, core_after core w event stands, controls_alike within lent core event agree reach)

pub returns-clause-alone : goal.returns-clause-alone
returns-clause-alone c core w lent within event stands agree reach = control_alone within lent core event agree (core_ordered core w stands) reach

pub returns-clause-can : goal.returns-clause-can
returns-clause-can c core w lent within event stands agree reach = steps_alike within lent core event agree reach (core_can core w event stands)
