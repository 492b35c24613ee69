-- the result of a core's exchanges, for each state that it represents
use Rattle.std.proofs.Common.{◌≡◌, ℕ, Bool, true, false, List, [], ◌∷◌, refl, ap, sym, subst, ◌∙◌}
use Rattle.radio_floor.proofs.Words.{Event, Reply, World, Represents, core_steps, reply_to, world_after, Says, State, Running, Shut, Said, said, Exchange, prefixed, is_leave, LeavesAfter, Exchanges, WorldExchange}
use Rattle.radio_floor.proofs.Words.{ExchangesAs, exchanged, left_after, then_exchanged, CoresExchangeAsTheirStates}
use Rattle.radio_session.specs.Exchanges.{GoesOn}

left_by : (w mid core' : World) (id : ℕ) (b : Bool) (event : Event) → is_leave event ≡ b → Represents mid w → LeavesAfter core_steps id b mid core'
    → Represents core' (left_after w id event)
left_by w mid core' id true event e stands same = rw e (subst (λ (c : World). Represents c w) (sym same) stands)
left_by w mid core' id false event e stands steps =
    let s = steps.1.1 w stands in
    rw e (subst (λ (x : World). Represents core' x) s.1.1 s.2)

module _ (id : ℕ) where
  goes_on : (w mid core' : World) (event : Event) (written : Said) (state : State) (Others : Exchange → Type 0) (others : WorldExchange) (x : Exchange)
      → Represents mid w → ((y : Exchange) → Others y → ExchangesAs core' y others) → GoesOn core_steps id state event written mid Others x core'
      → ExchangesAs core' x (then_exchanged w id event written state others)
  goes_on w mid core' event written Running Others others x stands rest g =
      let r = rest g.0 g.1 in
      record { stands = r.stands; same = g.2 ∙ ap (prefixed written.bytes) r.same }
  goes_on w mid core' event written (Shut ending) Others others x stands rest g =
      record { stands = left_by w mid core' id (is_leave event) event refl stands g.0; same = g.1 }

  pub exchanges_as : (says : Says) (events : List Event) (core core' : World) (x : Exchange) → Exchanges core_steps id says events core x core'
      → (w : World) → Represents core w → ExchangesAs core' x (exchanged w id says events)
  exchanges_as says [] core core' x e w stands = record { stands = subst (λ (c : World). Represents c w) (sym e.1) stands; same = e.0 }
  exchanges_as says (event ∷ events) core core' x e w stands =
      let reply = e.0 in
      let mid = e.1 in
      let s = e.2.1 w stands in
      let next : reply ≡ reply_to w event = s.1.0 in
      let after : Represents mid (world_after w event) = subst (λ (y : World). Represents mid y) s.1.1 s.2 in
      let written = said says reply in
      let others = exchanged (world_after w event) id written.says events in
      let done = goes_on (world_after w event) mid core' event written written.state
      (λ y. Exchanges core_steps id written.says events mid y core') others x after
      (λ y f. exchanges_as written.says events mid core' y f (world_after w event) after) e.3 in
      subst (λ (r : Reply). ExchangesAs core' x (then_exchanged (world_after w event) id event (said says r) (said says r).state
      (exchanged (world_after w event) id (said says r).says events))) next done

pub cores_exchange : CoresExchangeAsTheirStates
cores_exchange id says events core core' x e w stands = exchanges_as id says events core core' x e w stands
