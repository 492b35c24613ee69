use Rattle.std.proofs.Common.{◌≡◌, Option, Some, IfOk, sym, subst}
use Rattle.radio_chronicle.proofs.Words.{CanDraw, MountPart, CanDrawHere, IsKeptUnlessReplied}
use Rattle.radio_chronicle.proofs.OwnLemmas.{kept_in}
use Rattle.radio_chronicle.proofs.own_steps.step_here.Goals as goal

pub returns-in-Some-clause-elsewhere : goal.returns-in-Some-clause-elsewhere
returns-in-Some-clause-elsewhere c can =
    let some : c.args.part.now ≡ Some c.in-Some.part = c.in-Some.is in
    let draws : CanDraw c.in-Some.part c.args.event = subst (λ (part : Option MountPart). CanDrawHere part c.args.event) some can in
    subst (λ (part : Option MountPart). IfOk c.step.result (λ answer. IsKeptUnlessReplied answer part (Some c.step.new.self))) (sym some)
    (kept_in c.args.queue c.args.moment c.in-Some.part c.step.new.self c.args.event c.step.result (c.step.ensures.answer draws) (c.step.ensures.ok draws))
