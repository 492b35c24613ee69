-- What a connection's events answer, for each state that the core represents.
use Rattle.std.proofs.Common.{◌≡◌, List, [], ◌∷◌, ℕ, Some, refl, sym, ap, subst, ◌∙◌}
use Rattle.radio_floor.proofs.Words.{Event, Reply, State, Running, Shut, World, core_steps, Says, Conversation, saying_now, Exchange, nothing_exchanged, prefixed, ended_with, is_leave, LeavesAfter, Exchanges, said}
use Rattle.radio_floor.proofs.Words.{exchanged, CoresExchangeAsTheirStates, DeliveryAnswer, Client, Labelled, exchanges, written_lines, kept_unless, with_connection, AnswersAs, performed_as}
use Rattle.radio_events.specs.declared.state.Ending.{Ending}
use Rattle.radio_session.specs.Exchanges.{GoesOn}

pub answers_exchanged : (core core' : World) (before after : Conversation) (events : List Event) (answered : DeliveryAnswer) (x : Exchange)
    → CoresExchangeAsTheirStates → Exchanges core_steps before.id before.says events core x core' → answered.bytes.items ≡ x.bytes
    → answered.state ≡ x.state → after ≡ saying_now before x.says
    → AnswersAs core core' answered (Client after) (λ state label done. exchanges state label before events ≡ done)
answers_exchanged core core' before after events answered x law e bytes state says w stands =
    let d = law before.id before.says events core core' x e w stands in
    let done = exchanged w before.id before.says events in
    let y = done.exchange in
    let out : answered.bytes.items ≡ y.bytes = bytes ∙ ap (λ (z : Exchange). z.bytes) d.same in
    let ends : answered.state ≡ y.state = state ∙ ap (λ (z : Exchange). z.state) d.same in
    let goes : after ≡ saying_now before y.says = says ∙ ap (λ (z : Exchange). saying_now before z.says) d.same in
    let done_as = λ (connections : List Labelled) (label : ℕ) (out : List ℕ) (ends : State) (now : Conversation).
    performed_as (Some (written_lines label out ends)) done.world (with_connection connections label (kept_unless (Client now) ends)) in (
      done.world,
      d.stands,
      λ connections label.
          ap (λ (xs : List ℕ). done_as connections label xs y.state (saying_now before y.says)) (sym out)
          ∙ ap (λ (f : State). done_as connections label answered.bytes.items f (saying_now before y.says)) (sym ends)
          ∙ ap (λ (now : Conversation). done_as connections label answered.bytes.items answered.state now) (sym goes),
    )

-- a connection's only event is answered
module _ (id : ℕ) (says : Says) (event : Event) (core mid : World) (reply : Reply) (step : core_steps core event reply mid) where
  -- and the connection goes on
  pub alone_on : (said says reply).state ≡ Running
      → Exchanges core_steps id says (event ∷ []) core (prefixed (said says reply).bytes (nothing_exchanged (said says reply).says)) mid
  alone_on runs =
      let written = said says reply in
      let none = nothing_exchanged written.says in (
        reply,
        mid,
        step,
        subst (λ (state : State). GoesOn core_steps id state event written mid (λ y. Exchanges core_steps id written.says [] mid y mid)
            (prefixed written.bytes none) mid) (sym runs)
            (none, (refl, refl), refl),
      )

  -- and the connection ends
  pub alone_last : (core' : World) (ending : Ending) → (said says reply).state ≡ Shut ending → LeavesAfter core_steps id (is_leave event) mid core'
      → Exchanges core_steps id says (event ∷ []) core (ended_with (said says reply) ending) core'
  alone_last core' ending last leaves =
      let written = said says reply in (
        reply,
        mid,
        step,
        subst (λ (state : State). GoesOn core_steps id state event written mid (λ y. Exchanges core_steps id written.says [] mid y core')
            (ended_with written ending) core') (sym last)
            (leaves, refl),
      )
