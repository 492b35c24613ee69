use Rattle.std.proofs.Common.{◌≡◌, ◌∷◌, [], ◌++◌, List, Option, IfSome, ap, ◌∙◌, subst}
use Rattle.radio_merge.proofs.Words.{Entry}
use Rattle.radio_merge.proofs.Steppings.{Steps, one_more}
use Rattle.radio_merge.proofs.replaying.Stepping.step.Goals as goal

pub returns-in-Some-2-clause-so_far : goal.returns-in-Some-2-clause-so_far
returns-in-Some-2-clause-so_far c opening order so =
    let self = c.args.self.now in
    let entry = c.in-Some.entry.now in
    let again = c.in-Some-2.again in
    let same : again ≡ entry = subst (λ (o : Option Entry). IfSome o (λ x. x ≡ entry)) c.in-Some-2.is c.in_ok-again.ensures.same in
    let steps : Steps self.core again c.repeat.new.core =
    subst (λ (o : Option Entry). IfSome o (λ x. Steps self.core x c.repeat.new.core)) c.in-Some-2.is c.in_ok-again.ensures.step in
    one_more opening self.family.now.control.items self.family.now.mounts.items order c.args.stamp.now self.core c.repeat.new.core self.history.items
    c.push_reserved.new.self.items entry again self.positions c.take.new.self c.in-Some.ensures same steps
    (c.push_reserved.ensures.items ∙ ap (λ (xs : List Entry). xs ++ again ∷ []) c.reserve.ensures.items) so
