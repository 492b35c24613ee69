-- Exchanges in two parts, joined and taken apart.
use Rattle.std.proofs.Common.{◌≡◌, ℕ, Bool, true, false, List, [], ◌∷◌, ◌++◌, refl, ap, sym, subst, ◌∙◌}
use Rattle.radio_events.specs.declared.event.Event.{Event}
use Rattle.radio_events.specs.declared.event.Event.TheVariants.{Leave}
use Rattle.radio_events.specs.declared.reply.Reply.{Reply}
use Rattle.radio_session.specs.declared.session.Says.{Says}
use Rattle.radio_events.specs.declared.state.State.{State}
use Rattle.radio_events.specs.declared.state.State.TheVariants.{Running, Shut}
use Rattle.radio_events.specs.declared.state.Ending.{Ending}
use Rattle.radio_session.specs.Saying.{said}
use Rattle.radio_events.specs.Servers.{Steps}
use Rattle.radio_session.specs.Exchanges.{Exchange, nothing_exchanged, prefixed, ended_with, is_leave, LeavesAfter, GoesOn, Exchanges}
use Rattle.radio_session.specs.DataServers.{HasOneReply}
use Rattle.radio_session.proofs.ExchangeLemmas.{prefix_twice, one_on, one_last}

module _ {S : Type 0} (steps : Steps S) (id : ℕ) where
  -- other events, after those that exchanged x
  abbrev pub FollowsBy : State → List Event → Exchange → S → Exchange → S → Type 0
  FollowsBy Running events x mid all to = (y : Exchange) × Exchanges steps id x.says events mid y to × (all ≡ prefixed x.bytes y)
  FollowsBy (Shut ending) events x mid all to = (all ≡ x) × (to ≡ mid)

  -- an exchange in two parts
  pub record Parts (says : Says) (first second : List Event) (from : S) (all : Exchange) (to : S) : Type 0 where
    pub x : Exchange
    pub mid : S
    pub begins : Exchanges steps id says first from x mid
    pub follows : FollowsBy x.state second x mid all to

  follows_prefixed : (bytes : List ℕ) (events : List Event) (x : Exchange) (mid : S) (all : Exchange) (to : S) (state : State)
      → FollowsBy state events x mid all to → FollowsBy state events (prefixed bytes x) mid (prefixed bytes all) to
  follows_prefixed bytes events x mid all to Running f = (f.0, f.1, ap (prefixed bytes) f.2 ∙ prefix_twice bytes x.bytes f.0)
  follows_prefixed bytes events x mid all to (Shut ending) f = (ap (prefixed bytes) f.0, f.1)

  pub split : (first second : List Event) (says : Says) (from : S) (all : Exchange) (to : S) → Exchanges steps id says (first ++ second) from all to
      → Parts says first second from all to
  split [] second says from all to e = record { x = nothing_exchanged says; mid = from; begins = (refl, refl); follows = (all, e, refl) }
  split (event ∷ first) second says from all to e = by_state (split first second (said says e.0).says e.1) (said says e.0).state refl e.3 where
    by_state : ((others : Exchange) (end : S) → Exchanges steps id (said says e.0).says (first ++ second) e.1 others end
        → Parts (said says e.0).says first second e.1 others end)
        → (state : State) → (said says e.0).state ≡ state
        → GoesOn steps id state event (said says e.0) e.1 (λ others. Exchanges steps id (said says e.0).says (first ++ second) e.1 others to) all to
        → Parts says (event ∷ first) second from all to
    by_state further Running runs g =
        let written = said says e.0 in
        let rest = further g.0 to g.1 in
        record {
          x = prefixed written.bytes rest.x;
          mid = rest.mid;
          begins = one_on steps id says event first from e.1 rest.mid e.0 e.2 rest.x runs rest.begins;
          follows = subst (λ (y : Exchange). FollowsBy rest.x.state second (prefixed written.bytes rest.x) rest.mid y to) (sym g.2)
              (follows_prefixed written.bytes second rest.x rest.mid g.0 to rest.x.state rest.follows);
        }
    by_state further (Shut ending) ends g =
        let written = said says e.0 in
        record {
          x = ended_with written ending;
          mid = to;
          begins = one_last steps id says event first from e.1 to e.0 e.2 ending ends g.0;
          follows = (g.1, refl);
        }

  -- two parts joined
  pub join_on : (first second : List Event) (says : Says) (from mid to : S) (x y : Exchange) → Exchanges steps id says first from x mid
      → x.state ≡ Running → Exchanges steps id x.says second mid y to → Exchanges steps id says (first ++ second) from (prefixed x.bytes y) to
  join_on [] second says from mid to x y e runs f =
      let here = subst (λ (s : S). Exchanges steps id x.says second s y to) e.1 f in
      let same = subst (λ (z : Exchange). Exchanges steps id z.says second from y to) e.0 here in
      subst (λ (z : Exchange). Exchanges steps id says second from (prefixed z.bytes y) to) (sym e.0) same
  join_on (event ∷ first) second says from mid to x y e runs f = by_state (λ z. join_on first second (said says e.0).says e.1 mid to z y)
      (said says e.0).state refl e.3 where
        by_state : ((z : Exchange) → Exchanges steps id (said says e.0).says first e.1 z mid → z.state ≡ Running
            → Exchanges steps id z.says second mid y to → Exchanges steps id (said says e.0).says (first ++ second) e.1 (prefixed z.bytes y) to)
            → (state : State) → (said says e.0).state ≡ state
            → GoesOn steps id state event (said says e.0) e.1 (λ others. Exchanges steps id (said says e.0).says first e.1 others mid) x mid
            → Exchanges steps id says (event ∷ first ++ second) from (prefixed x.bytes y) to
        by_state further Running goes g =
            let written = said says e.0 in
            let later = further g.0 g.1 (sym (ap (λ (z : Exchange). z.state) g.2) ∙ runs)
            (subst (λ (z : Exchange). Exchanges steps id z.says second mid y to) g.2 f) in
            subst (λ (z : Exchange). Exchanges steps id says (event ∷ first ++ second) from z to)
            (prefix_twice written.bytes g.0.bytes y ∙ ap (λ (z : Exchange). prefixed z.bytes y) (sym g.2))
            (one_on steps id says event (first ++ second) from e.1 to e.0 e.2 (prefixed g.0.bytes y) goes later)
        by_state further (Shut ending) ends g =
            let none : Shut ending ≡ Running = sym (ap (λ (z : Exchange). z.state) g.1) ∙ runs in
            cc

  pub join_shut : (first second : List Event) (says : Says) (from to : S) (x : Exchange) (ending : Ending) → Exchanges steps id says first from x to
      → x.state ≡ Shut ending → Exchanges steps id says (first ++ second) from x to
  join_shut [] second says from to x ending e shut =
      let none : Running ≡ Shut ending = sym (ap (λ (z : Exchange). z.state) e.0) ∙ shut in
      cc
  join_shut (event ∷ first) second says from to x ending e shut = by_state (λ z. join_shut first second (said says e.0).says e.1 to z ending)
      (said says e.0).state refl e.3 where
        by_state : ((z : Exchange) → Exchanges steps id (said says e.0).says first e.1 z to → z.state ≡ Shut ending
            → Exchanges steps id (said says e.0).says (first ++ second) e.1 z to)
            → (state : State) → (said says e.0).state ≡ state
            → GoesOn steps id state event (said says e.0) e.1 (λ others. Exchanges steps id (said says e.0).says first e.1 others to) x to
            → Exchanges steps id says (event ∷ first ++ second) from x to
        by_state further Running goes g =
            let written = said says e.0 in
            let later = further g.0 g.1 (sym (ap (λ (z : Exchange). z.state) g.2) ∙ shut) in
            subst (λ (z : Exchange). Exchanges steps id says (event ∷ first ++ second) from z to) (sym g.2)
            (one_on steps id says event (first ++ second) from e.1 to e.0 e.2 g.0 goes later)
        by_state further (Shut last) ends g =
            subst (λ (z : Exchange). Exchanges steps id says (event ∷ first ++ second) from z to) (sym g.1)
            (one_last steps id says event (first ++ second) from e.1 to e.0 e.2 last ends g.0)

  module _ (one : HasOneReply steps) where
    left_as_one : (leaves : Bool) (from to other : S) → LeavesAfter steps id leaves from to → LeavesAfter steps id leaves from other → to ≡ other
    left_as_one true from to other e f = e ∙ sym f
    left_as_one false from to other e f = (one from to other (Leave id) e.0 f.0 e.1 f.1).1

    -- the same events from the same state have one exchange
    pub exchanged_as_one : (events : List Event) (says : Says) (from : S) (x y : Exchange) (to other : S) → Exchanges steps id says events from x to
        → Exchanges steps id says events from y other → (x ≡ y) × (to ≡ other)
    exchanged_as_one [] says from x y to other e f = (e.0 ∙ sym f.0, e.1 ∙ sym f.1)
    exchanged_as_one (event ∷ events) says from x y to other e f =
        let same = one from e.1 f.1 event e.0 f.0 e.2 f.2 in
        let again = subst (λ (r : Reply). GoesOn steps id (said says r).state event (said says r) f.1
        (λ z. Exchanges steps id (said says r).says events f.1 z other) y other) (sym same.0) f.3 in
        let here = subst (λ (m : S). GoesOn steps id (said says e.0).state event (said says e.0) m
        (λ z. Exchanges steps id (said says e.0).says events m z other) y other) (sym same.1) again in
        by_state (λ z v. exchanged_as_one events (said says e.0).says e.1 z v to other) (said says e.0).state e.3 here where
          by_state : ((z v : Exchange) → Exchanges steps id (said says e.0).says events e.1 z to
              → Exchanges steps id (said says e.0).says events e.1 v other → (z ≡ v) × (to ≡ other))
              → (state : State)
              → GoesOn steps id state event (said says e.0) e.1 (λ z. Exchanges steps id (said says e.0).says events e.1 z to) x to
              → GoesOn steps id state event (said says e.0) e.1 (λ z. Exchanges steps id (said says e.0).says events e.1 z other) y other
              → (x ≡ y) × (to ≡ other)
          by_state further Running g h =
              let rest = further g.0 h.0 g.1 h.1 in
              (g.2 ∙ ap (prefixed (said says e.0).bytes) rest.0 ∙ sym h.2, rest.1)
          by_state further (Shut ending) g h = (g.1 ∙ sym h.1, left_as_one (is_leave event) e.1 to other g.0 h.0)
