-- The result of a pull, for any server that applies its events.
use Rattle.std.specs.Prelude.{◌≡◌, ◌⊎◌, ℕ, true, List, [], ◌∷◌, Option, None, Some}
use Rattle.radio_events.specs.declared.event.Event.{Event}
use Rattle.radio_events.specs.declared.event.Event.TheVariants.{RelayDown}
use Rattle.radio_events.specs.declared.reply.Reply.{Reply}
use Rattle.radio_relay.specs.declared.items.PullItem.{PullItem}
use Rattle.radio_relay.specs.declared.pull.PullStage.{PullStage}
use Rattle.radio_relay.specs.declared.pull.PullStage.TheVariants.{Over}
use Rattle.radio_relay.specs.Items.{GivesItems, items_of}
use Rattle.radio_relay.specs.Pulled.{GoesOn, IsPulledAt, Pulled, PullProgress as AnswerStanding, Stops}
use Rattle.radio_events.specs.declared.state.State.{State}
use Rattle.radio_events.specs.declared.state.State.TheVariants.{Running, Shut}
use Rattle.radio_events.specs.declared.state.Ending.TheVariants.{BadPull}
use Rattle.radio_events.specs.Servers.{Steps}
use Rattle.radio_relay.specs.Pulling.{MakingTakesMemory, Pulling, NumberedState, state_after_reply, event_for, is_shut, running_pull}

-- the rest happens if the pull goes on
abbrev pub Follows : State → Type 0 → Type 0 → Type 0
Follows Running rest last = rest
Follows (Shut ending) rest last = last

-- memory may be refused for the going down of a relay that is up
abbrev pub RefusesDown : {S : Type 0} → (S → Event → Type 0) → Option ℕ → S → Type 0
RefusesDown refuses None from = ⊥
RefusesDown refuses (Some id) from = refuses from (RelayDown id)

module _ {S : Type 0} (steps : Steps S) where
  -- a relay that is up goes down
  -- rule: Relay goes down
  abbrev pub GoesDown : Option ℕ → S → S → Type 0
  GoesDown None from to = to ≡ from
  GoesDown (Some id) from to = (reply : Reply) × steps from (RelayDown id) reply to

  -- the relay goes down if its pull is shut
  abbrev pub GoesDownIfShut : State → Option ℕ → S → S → Type 0
  GoesDownIfShut Running number from to = to ≡ from
  GoesDownIfShut (Shut ending) number from to = GoesDown number from to

  -- an event is applied
  -- rule: Relay goes down
  pub record Asks (number : Option ℕ) (event : Event) (from : S) (after : NumberedState) (to : S) : Type 0 where
    pub reply : Reply
    pub mid : S
    pub step : steps from event reply mid
    pub is_answered : after ≡ state_after_reply number reply
    pub goes : GoesDownIfShut after.state after.number mid to

  -- an event is applied, if the relay asks for one
  abbrev pub AsksIf : Option ℕ → Option Event → S → NumberedState → S → Type 0
  AsksIf number None from after to = (after ≡ running_pull number) × (to ≡ from)
  AsksIf number (Some event) from after to = Asks number event from after to

  -- an event is applied and then the rest, if one is asked for
  abbrev pub Onwards : Option ℕ → Option Event → S → (NumberedState → S → Type 0) → NumberedState → S → Type 0
  Onwards number None from Rest after to = (after ≡ running_pull number) × (to ≡ from)
  Onwards number (Some event) from Rest after to =
      (now : NumberedState) × (mid : S) × Asks number event from now mid × Follows now.state (Rest now mid) ((after ≡ now) × (to ≡ mid))

  -- what items ask for is applied, one after another, until the pull is shut
  -- rule: Pulled stream
  abbrev pub BringsItems : List ℕ → Option ℕ → List PullItem → S → NumberedState → S → Type 0
  BringsItems mount number [] from after to = (after ≡ running_pull number) × (to ≡ from)
  BringsItems mount number (item ∷ items) from after to =
      Onwards number (event_for mount number item) from (λ now mid. BringsItems mount now.number items mid after to) after to

  -- what is pulled in is brought; at a fault of the answer the pull is shut
  abbrev pub ComesOf : Pulling → List PullItem → AnswerStanding → S → Pulling → State → S → Type 0
  ComesOf pulling items (GoesOn stage) from pulling' state to =
      (after : NumberedState) × BringsItems pulling.mount pulling.number items from after to × (state ≡ after.state)
      × (pulling' ≡ record { mount = pulling.mount; number = after.number; stage = stage })
  ComesOf pulling items (Stops fault) from pulling' state to =
      GoesDown pulling.number from to × (state ≡ Shut BadPull) × (pulling' ≡ record pulling { stage = Over })

  -- the next bytes of the master's answer come
  -- rule: Pulled stream
  abbrev pub Takes : Pulling → List ℕ → S → Pulling → State → S → Type 0
  Takes pulling bytes from pulling' state to =
      (pulled : Pulled) × IsPulledAt pulling.stage bytes pulled
      × ComesOf pulling (items_of pulled.parts) pulled.standing from pulling' state to

  module _ (refuses : S → Event → Type 0) where
    -- the server refused memory for an event, or for the going down of a relay that is up, after the reply has shut the pull
    abbrev pub AsksAtMost : Option ℕ → Event → S → Option ℕ → S → Type 0
    AsksAtMost number event from number' to =
        (refuses from event × (number' ≡ number) × (to ≡ from))
        ⊎ ((reply : Reply) × steps from event reply to × (is_shut (state_after_reply number reply).state ≡ true)
        × (number' ≡ (state_after_reply number reply).number) × RefusesDown refuses number' to)

    -- the same if the relay asks for an event; a relay that asks for none is never refused
    abbrev pub AsksAtMostIf : Option ℕ → Option Event → S → Option ℕ → S → Type 0
    AsksAtMostIf number None from number' to = ⊥
    AsksAtMostIf number (Some event) from number' to = AsksAtMost number event from number' to

    -- the server refused memory for an event, or memory was refused for the rest
    abbrev pub OnwardsAtMost : Option ℕ → Option Event → S → (Option ℕ → S → Type 0) → Option ℕ → S → Type 0
    OnwardsAtMost number None from Rest number' to = ⊥
    OnwardsAtMost number (Some event) from Rest number' to =
        AsksAtMost number event from number' to
        ⊎ ((now : NumberedState) × (mid : S) × Asks number event from now mid × (now.state ≡ Running) × Rest now.number mid)

    -- memory was refused at one of these items, and what the items before it ask for was applied. The making of its event may take memory,
    -- before the server is asked
    abbrev pub BringsAtMost : List ℕ → Option ℕ → List PullItem → S → Option ℕ → S → Type 0
    BringsAtMost mount number [] from number' to = ⊥
    BringsAtMost mount number (item ∷ items) from number' to =
        (MakingTakesMemory item × (number' ≡ number) × (to ≡ from))
        ⊎ OnwardsAtMost number (event_for mount number item) from (λ now mid. BringsAtMost mount now items mid number' to) number' to

    -- memory was refused when the next bytes of the master's answer came, and the relay has this number now. Either nothing was applied:
    -- memory was refused for the items, or for the going down at a fault of the answer. Or it was refused at one of the items
    -- rule: Pulled stream
    abbrev pub TakesAtMost : Pulling → List ℕ → S → Option ℕ → S → Type 0
    TakesAtMost pulling bytes from number' to =
        ((number' ≡ pulling.number) × (to ≡ from))
        ⊎ ((items : List PullItem) × (stage : PullStage) × GivesItems pulling.stage bytes items stage
        × BringsAtMost pulling.mount pulling.number items from number' to)
