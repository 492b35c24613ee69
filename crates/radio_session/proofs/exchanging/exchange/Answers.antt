use Rattle.std.proofs.Common.{◌≡◌, ℕ, Bool, List, [], ◌++◌, refl, ap, sym, subst, ◌∙◌, append_assoc, append-nil, arith}
use Rattle.std.proofs.lemmas.List.{nil_from_length}
use Rattle.std.specs.Vec.Iter.{into_iter_items}
use Rattle.radio_events.specs.declared.event.Event.{Event}
use Rattle.radio_session.specs.declared.session.Says.{Says}
use Rattle.radio_session.specs.Conversation.{Conversation}
use Rattle.radio_session.specs.Saying.{said}
use Rattle.radio_session.specs.Exchanges.{Exchange, nothing_exchanged, prefixed, ended_with, LeavesAfter, Exchanges}
use Rattle.radio_session.proofs.ExchangeLemmas.{prefix_twice, one_on, one_last}
use Rattle.radio_session.proofs.exchanging.exchange.Goals as goal

-- a conversation that changed twice in how it writes is the one at the start, with the last of these changes
says_on : (start before now : Conversation) (says : Says) → before ≡ record start { says = before.says } → now ≡ record before { says = says }
    → now ≡ record start { says = says }
says_on start before now says same e = e ∙ ap (λ (c : Conversation). record c { says = says }) same

pub loop-event-init : goal.loop-event-init
loop-event-init g c = record {
  so_far = [];
  out = sym (append-nil c.args.out.now.items);
  same = refl;
  all = λ x to e.
      subst (λ (events : List Event). Exchanges g.S.Server.steps c.args.session.now.id c.args.session.now.says events c.args.server.now x to)
      c.into_iter-event-iterator.ensures.into_iter_gives.0 e;
}

pub loop-event-preserved : goal.loop-event-preserved
loop-event-preserved g c =
    let inv = c.loop-event.invariant in
    let a = c.in_ok-ending.ensures in
    let start = c.args.session.now in
    let before = c.loop-event.session in
    let written = said before.says a.0 in
    let rest = into_iter_items c.next.new.self in
    let now : c.answer.new.session ≡ record start { says = written.says } = says_on start before c.answer.new.session written.says inv.same a.2.2 in
    let says : c.answer.new.session.says ≡ written.says = ap (λ (x : Conversation). x.says) now in
    record {
      so_far = inv.so_far ++ written.bytes;
      out = a.2.0 ∙ ap (λ (xs : List ℕ). xs ++ written.bytes) inv.out ∙ append_assoc c.args.out.now.items inv.so_far written.bytes;
      same = now ∙ ap (λ (s : Says). record start { says = s }) (sym says);
      all = λ x to e.
          let others = subst (λ (s : Says). Exchanges g.S.Server.steps start.id s rest c.answer.new.server x to) says e in
          let here = one_on g.S.Server.steps start.id before.says c.in-Some.event rest c.loop-event.server c.answer.new.server to a.0 a.1 x
          (sym a.2.1 ∙ c.in_default.is) others in
          let left = subst (λ (events : List Event). Exchanges g.S.Server.steps start.id before.says events c.loop-event.server
          (prefixed written.bytes x) to) (sym c.in-Some.ensures.steps.0) here in
          subst (λ (y : Exchange). Exchanges g.S.Server.steps start.id start.says c.args.events.items c.args.server.now y to)
          (prefix_twice inv.so_far written.bytes x) (inv.all (prefixed written.bytes x) to left);
    }

pub returns-in-Shut : goal.returns-in-Shut
returns-in-Shut g c =
    let inv = c.loop-event.invariant in
    let a = c.in_ok-ending.ensures in
    let start = c.args.session.now in
    let before = c.loop-event.session in
    let written = said before.says a.0 in
    let rest = into_iter_items c.next.new.self in
    let ending = c.in-Shut.ending in
    let to = c.leave_after.new.server in
    let now : c.answer.new.session ≡ record start { says = written.says } = says_on start before c.answer.new.session written.says inv.same a.2.2 in
    let id : c.id.result ≡ start.id = c.id.ensures ∙ ap (λ (x : Conversation). x.id) now in
    let leaves = subst (λ (b : Bool). LeavesAfter g.S.Server.steps start.id b c.answer.new.server to) c.is_leave-leaves.ensures
    (subst (λ (n : ℕ). LeavesAfter g.S.Server.steps n c.is_leave-leaves.result c.answer.new.server to) id c.in_ok-leave_after.ensures) in
    let here = one_last g.S.Server.steps start.id before.says c.in-Some.event rest c.loop-event.server c.answer.new.server to a.0 a.1 ending
    (sym a.2.1 ∙ c.in-Shut.is) leaves in
    let left = subst (λ (events : List Event). Exchanges g.S.Server.steps start.id before.says events c.loop-event.server
    (ended_with written ending) to) (sym c.in-Some.ensures.steps.0) here in (
      prefixed inv.so_far (ended_with written ending),
      inv.all (ended_with written ending) to left,
      a.2.0 ∙ ap (λ (xs : List ℕ). xs ++ written.bytes) inv.out ∙ append_assoc c.args.out.now.items inv.so_far written.bytes,
      refl,
      now,
    )

pub returns : goal.returns
returns g c =
    let inv = c.loop-event.invariant in
    let start = c.args.session.now in
    let before = c.loop-event.session in
    let server = c.loop-event.server in
    let none : into_iter_items c.loop-event.event-iterator ≡ [] = nil_from_length (into_iter_items c.loop-event.event-iterator)
    (omega (arith, c.loop-event.event-iterator.rest.ok.0, c.in-None.ensures.steps.0)) in
    let left = subst (λ (events : List Event). Exchanges g.S.Server.steps start.id before.says events server (nothing_exchanged before.says) server)
    (sym none) (refl, refl) in (
      prefixed inv.so_far (nothing_exchanged before.says),
      inv.all (nothing_exchanged before.says) server left,
      inv.out ∙ ap (λ (xs : List ℕ). c.args.out.now.items ++ xs) (sym (append-nil inv.so_far)),
      refl,
      inv.same,
    )
