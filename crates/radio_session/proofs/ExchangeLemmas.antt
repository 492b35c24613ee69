-- Puts exchanges together, one event after another.
use Rattle.std.proofs.Common.{◌≡◌, ℕ, List, ◌∷◌, ◌++◌, refl, ap, sym, subst, append_assoc}
use Rattle.radio_events.specs.declared.event.Event.{Event}
use Rattle.radio_events.specs.declared.reply.Reply.{Reply}
use Rattle.radio_events.specs.Servers.{Steps}
use Rattle.radio_session.specs.declared.session.Says.{Says}
use Rattle.radio_events.specs.declared.state.State.{State}
use Rattle.radio_events.specs.declared.state.State.TheVariants.{Running, Shut}
use Rattle.radio_events.specs.declared.state.Ending.{Ending}
use Rattle.radio_session.specs.Saying.{said}
use Rattle.radio_session.specs.Exchanges.{Exchange, prefixed, ended_with, is_leave, LeavesAfter, GoesOn, Exchanges}

pub prefix_twice : (first second : List ℕ) (x : Exchange) → prefixed first (prefixed second x) ≡ prefixed (first ++ second) x
prefix_twice first second x = ap (λ (bytes : List ℕ). record x { bytes = bytes }) (sym (append_assoc first second x.bytes))

module _ {S : Type 0} (steps : Steps S) (id : ℕ) (says : Says) (event : Event) (events : List Event) (from mid to : S) (reply : Reply)
    (step : steps from event reply mid) where
  -- the event is answered, and the others exchange x
  pub one_on : (x : Exchange) → (said says reply).state ≡ Running → Exchanges steps id (said says reply).says events mid x to
      → Exchanges steps id says (event ∷ events) from (prefixed (said says reply).bytes x) to
  one_on x runs others = (
    reply,
    mid,
    step,
    subst (λ (e : State). GoesOn steps id e event (said says reply) mid (λ y. Exchanges steps id (said says reply).says events mid y to)
        (prefixed (said says reply).bytes x) to) (sym runs)
        (x, others, refl),
  )

  -- the event is answered, and the connection ends
  pub one_last : (ending : Ending) → (said says reply).state ≡ Shut ending → LeavesAfter steps id (is_leave event) mid to
      → Exchanges steps id says (event ∷ events) from (ended_with (said says reply) ending) to
  one_last ending last leaves = (
    reply,
    mid,
    step,
    subst (λ (e : State). GoesOn steps id e event (said says reply) mid (λ y. Exchanges steps id (said says reply).says events mid y to)
        (ended_with (said says reply) ending) to) (sym last)
        (leaves, refl),
  )
