use Rattle.std.proofs.Common.{◌≡◌, ℕ, ◌+◌, ◌<◌, ◌∷◌, ◌++◌, [], List, Some, Err, length, drop, get_or, arith, sym, ap, ◌∙◌, subst}
use Rattle.radio_script.proofs.Words.{drop_more, drop_all, Delivery, Runs}
use Rattle.radio_script.proofs.RunLemmas.{RunsOn, RunsOn-more, RunsOn-stops, RunsOn-all}
use Rattle.radio_script.proofs.running.run_with.Goals as goal

-- the delivery at an index, and those after it
next_of : (all : List Delivery) (i : ℕ) (delivery : Delivery) → i < length all → delivery ≡ get_or all i delivery → drop i all ≡ delivery ∷ drop (i + 1) all
next_of all i delivery within is = drop_more all i delivery within ∙ ap (λ d. d ∷ drop (i + 1) all) (sym is)

pub returns-in-Err-Label-clause-delivery : goal.returns-in-Err-Label-clause-delivery
returns-in-Err-Label-clause-delivery g c = λ number e.
    let performs = g.P.Performer.performs in
    let all = c.args.deliveries.now in
    let i = c.loop-i.i in
    let delivery = c.index-deliveries-i.result in
    let here : i + 1 ≡ number = cc in
    let on = subst (λ left. RunsOn performs c.args.performer.now all c.loop-i.performer (i + 1) left c.loop-i.text.items)
    (next_of all i delivery (omega arith) c.index-deliveries-i.is) c.loop-i.invariant in
    let refused = c.in-Err-Label.ensures.label (ap Err c.in-Err-Label.field-0-is) in (
      c.loop-i.text.items ++ [],
      subst (λ n. Runs performs c.args.performer.now 1 all (c.loop-i.text.items ++ []) (Some n) c.perform.new.self) here
          (RunsOn-stops performs c.args.performer.now all c.loop-i.performer (i + 1) delivery
          (drop (i + 1) all) c.loop-i.text.items c.perform.new.self on refused),
    )

pub loop-i-preserved : goal.loop-i-preserved
loop-i-preserved g c =
    let performs = g.P.Performer.performs in
    let all = c.args.deliveries.now in
    let i = c.loop-i.i in
    let delivery = c.index-deliveries-i.result in
    let on = subst (λ left. RunsOn performs c.args.performer.now all c.loop-i.performer (i + 1) left c.loop-i.text.items)
    (next_of all i delivery (omega arith) c.index-deliveries-i.is) c.loop-i.invariant in
    let said = c.in-Ok.ensures.ok in
    subst (λ x. RunsOn performs c.args.performer.now all c.perform.new.self (i + 1 + 1) (drop (i + 1) all) x) (sym {A = List ℕ} said.1)
    (RunsOn-more performs c.args.performer.now all c.loop-i.performer (i + 1) delivery
    (drop (i + 1) all) c.loop-i.text.items said.0 c.perform.new.self on said.2)

pub returns-clause-ok : goal.returns-clause-ok
returns-clause-ok g c =
    let performs = g.P.Performer.performs in
    let all = c.args.deliveries.now in
    let none_left : drop c.loop-i.i all ≡ [] = drop_all c.loop-i.i all (omega arith) in
    RunsOn-all performs c.args.performer.now all c.loop-i.performer (c.loop-i.i + 1) c.loop-i.text.items
    (subst (λ left. RunsOn performs c.args.performer.now all c.loop-i.performer (c.loop-i.i + 1) left c.loop-i.text.items) none_left c.loop-i.invariant)
