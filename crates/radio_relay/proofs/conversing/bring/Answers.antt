use Rattle.std.proofs.Common.{◌≡◌, inl, ℕ, List, [], None, Some, Option, refl, ap, arith, subst, sym, ◌∙◌}
use Rattle.radio_relay.proofs.Words.{nil_from_length, into_iter_items, Event, PullItem, Pulling, event_for, running_pull, Running, BringsItems, BringsAtMost, Onwards}
use Rattle.radio_relay.proofs.AtMostLemmas.{on_err, one_brought, then_brings, then_brought}
use Rattle.radio_relay.proofs.conversing.bring.Goals as goal

pub returns-in_default-clause-ok : goal.returns-in_default-clause-ok
returns-in_default-clause-ok g c =
    let steps = g.S.Server.steps in
    let inv = c.loop-item.invariant in
    let start = c.args.relay.now in
    let before = c.loop-item.relay in
    let server = c.loop-item.server in
    let item = c.in-Some.item in
    let rest = into_iter_items c.next.new.self in
    let after = running_pull before.number in
    let mount : before.mount ≡ start.mount = ap (λ (p : Pulling). p.mount) inv.same in
    let none : event_for start.mount before.number item ≡ None =
    ap (λ (m : List ℕ). event_for m before.number item) (sym mount) ∙ sym c.in_ok-event.ensures.ok ∙ c.in_default.is in
    let here = subst (λ (e : Option Event). Onwards steps before.number e server
    (λ now mid. BringsItems steps start.mount now.number rest mid after server) after server) (sym none) (refl, refl) in
    let left = subst (λ (items : List PullItem). BringsItems steps start.mount before.number items server after server) (sym c.in-Some.ensures.steps.0) here in
    (after, inv.all after server left, refl, inv.same)

pub returns-clause-ok : goal.returns-clause-ok
returns-clause-ok g c =
    let steps = g.S.Server.steps in
    let inv = c.loop-item.invariant in
    let start = c.args.relay.now in
    let before = c.loop-item.relay in
    let server = c.loop-item.server in
    let after = running_pull before.number in
    let none : into_iter_items c.loop-item.item-iterator ≡ [] = nil_from_length (into_iter_items c.loop-item.item-iterator)
    (omega (arith, c.loop-item.item-iterator.rest.ok.0, c.in-None.ensures.steps.0)) in
    let left = subst (λ (items : List PullItem). BringsItems steps start.mount before.number items server after server) (sym none) (refl, refl) in
    (after, inv.all after server left, refl, inv.same)

pub loop-item-preserved : goal.loop-item-preserved
loop-item-preserved g c =
    let steps = g.S.Server.steps in
    let refuses = g.S.Server.refuses in
    let inv = c.loop-item.invariant in
    let start = c.args.relay.now in
    let before = c.loop-item.relay in
    let item = c.in-Some.item in
    let rest = into_iter_items c.next.new.self in
    let mount : before.mount ≡ start.mount = ap (λ (p : Pulling). p.mount) inv.same in
    let some : event_for start.mount before.number item ≡ Some c.in-Some-2.event =
    ap (λ (m : List ℕ). event_for m before.number item) (sym mount) ∙ sym c.in_ok-event.ensures.ok ∙ c.in-Some-2.is in
    let (after, asks, stands, numbered) = c.in_ok-ending.ensures.ok in
    let run : after.state ≡ Running = sym stands ∙ c.in_default-2.is in
    record {
      same = numbered ∙ ap (λ (p : Pulling). record p { number = after.number }) inv.same
          ∙ ap (λ (n : Option ℕ). record start { number = n }) (sym (ap (λ (p : Pulling). p.number) numbered));
      all = λ last to given. inv.all last to
          (subst (λ (items : List PullItem). BringsItems steps start.mount before.number items c.loop-item.server last to) (sym c.in-Some.ensures.steps.0)
          (then_brings steps start.mount before.number item rest c.in-Some-2.event after c.loop-item.server c.ask_for.new.server last to some asks run
          (subst (λ (p : Pulling). BringsItems steps start.mount p.number rest c.ask_for.new.server last to) numbered given)));
      at_most = λ number to given. inv.at_most number to
          (subst (λ (items : List PullItem). BringsAtMost steps refuses start.mount before.number items c.loop-item.server number to) (sym c.in-Some.ensures.steps.0)
          (then_brought steps refuses start.mount before.number number item rest c.in-Some-2.event after c.loop-item.server c.ask_for.new.server to some asks run
          (subst (λ (p : Pulling). BringsAtMost steps refuses start.mount p.number rest c.ask_for.new.server number to) numbered given)));
    }

pub returns-in_err-ending-clause-err : goal.returns-in_err-ending-clause-err
returns-in_err-ending-clause-err g c =
    let steps = g.S.Server.steps in
    let refuses = g.S.Server.refuses in
    let inv = c.loop-item.invariant in
    let start = c.args.relay.now in
    let before = c.loop-item.relay in
    let item = c.in-Some.item in
    let number = c.ask_for.new.relay.number in
    let to = c.ask_for.new.server in
    let mount : before.mount ≡ start.mount = ap (λ (p : Pulling). p.mount) inv.same in
    let some : event_for start.mount before.number item ≡ Some c.in-Some-2.event =
    ap (λ (m : List ℕ). event_for m before.number item) (sym mount) ∙ sym c.in_ok-event.ensures.ok ∙ c.in-Some-2.is in
    on_err c.from_residual-in_err-ending.result
    (inv.at_most number to
    (subst (λ (items : List PullItem). BringsAtMost steps refuses start.mount before.number items c.loop-item.server number to) (sym c.in-Some.ensures.steps.0)
    (one_brought steps refuses start.mount before.number number item (into_iter_items c.next.new.self) c.in-Some-2.event c.loop-item.server to some
    c.in_err-ending.ensures.err)))

pub returns-in_err-event-clause-err : goal.returns-in_err-event-clause-err
returns-in_err-event-clause-err g c =
    let steps = g.S.Server.steps in
    let refuses = g.S.Server.refuses in
    let inv = c.loop-item.invariant in
    let before = c.loop-item.relay in
    let server = c.loop-item.server in
    on_err c.from_residual.result
    (inv.at_most before.number server
    (subst (λ (items : List PullItem). BringsAtMost steps refuses c.args.relay.now.mount before.number items server before.number server)
    (sym c.in-Some.ensures.steps.0) (inl (c.in_err-event.ensures.refused, refl, refl))))
