use Rattle.std.proofs.Common.{◌≡◌, Option, Some, IfOk, sym, subst}
use Rattle.radio_chronicle.proofs.Words.{CanDraw, MountPart, once, CanDrawHere, IsKeptUnlessReplied}
use Rattle.radio_chronicle.proofs.OwnLemmas.{twice_kept_in}
use Rattle.radio_chronicle.proofs.own_steps.step_twice_here.Goals as goal

pub returns-in-Some-clause-elsewhere : goal.returns-in-Some-clause-elsewhere
returns-in-Some-clause-elsewhere c can =
    let some : c.args.part.now ≡ Some c.in-Some.part = c.in-Some.is in
    let draws : CanDraw c.in-Some.part c.args.event = subst (λ (part : Option MountPart). CanDrawHere part c.args.event) some can in
    subst (λ (part : Option MountPart). IfOk c.step_twice.result (λ twice. IsKeptUnlessReplied (once twice) part (Some c.step_twice.new.part))) (sym some)
    (twice_kept_in c.args.queue c.args.moment c.in-Some.part c.step_twice.new.part c.args.event c.step_twice.result (c.step_twice.ensures.answer draws) (c.step_twice.ensures.ok draws))
