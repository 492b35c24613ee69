-- What came about of items, and what before memory was refused.
use Rattle.std.proofs.Common.{◌≡◌, ◌⊎◌, inl, inr, ℕ, List, ◌∷◌, Option, Some, Result, Ok, Err, OnErr, sym, subst}
use Rattle.radio_relay.proofs.Words.{Event, Running, PullItem, Asks, AsksAtMost, BringsItems, BringsAtMost, Follows, Onwards, OnwardsAtMost, MakingTakesMemory, NumberedState, event_for}
use Rattle.radio_events.specs.declared.state.State.{State}
use Rattle.radio_events.specs.Servers.{Steps}

pub on_err : {T E P : Type 0} (result : Result T E) → P → OnErr result P
on_err (Ok value) holds = tt
on_err (Err fault) holds = holds

module _ {S : Type 0} (steps : Steps S) (refuses : S → Event → Type 0) (mount : List ℕ) where
  -- the first of these items asks for this event, if it asks for one
  abbrev BringsAtMostBy : Option ℕ → List PullItem → PullItem → S → Option ℕ → S → Option Event → Type 0
  BringsAtMostBy number items item from number' to event = (MakingTakesMemory item × (number' ≡ number) × (to ≡ from))
      ⊎ OnwardsAtMost steps refuses number event from (λ now mid. BringsAtMost steps refuses mount now items mid number' to) number' to

  -- at most the event of the first of them
  pub one_brought : (number number' : Option ℕ) (item : PullItem) (items : List PullItem) (event : Event) (from to : S)
      → event_for mount number item ≡ Some event → AsksAtMost steps refuses number event from number' to
      → BringsAtMost steps refuses mount number (item ∷ items) from number' to
  one_brought number number' item items event from to is asks =
      subst (BringsAtMostBy number items item from number' to) (sym is) (inr (inl asks))

  -- the event of the first of them, and then of the others
  pub then_brought : (number number' : Option ℕ) (item : PullItem) (items : List PullItem) (event : Event) (now : NumberedState) (from mid to : S)
      → event_for mount number item ≡ Some event → Asks steps number event from now mid → now.state ≡ Running
      → BringsAtMost steps refuses mount now.number items mid number' to → BringsAtMost steps refuses mount number (item ∷ items) from number' to
  then_brought number number' item items event now from mid to is asks run rest =
      subst (BringsAtMostBy number items item from number' to) (sym is) (inr (inr (now, mid, asks, run, rest)))

module _ {S : Type 0} (steps : Steps S) (mount : List ℕ) where
  -- memory was not refused: the event of the first of these items, and then of the others
  pub then_brings : (number : Option ℕ) (item : PullItem) (items : List PullItem) (event : Event) (now : NumberedState) (from mid : S) (after : NumberedState) (to : S)
      → event_for mount number item ≡ Some event → Asks steps number event from now mid → now.state ≡ Running
      → BringsItems steps mount now.number items mid after to → BringsItems steps mount number (item ∷ items) from after to
  then_brings number item items event now from mid after to is asks run rest =
      subst (λ (e : Option Event). Onwards steps number e from (λ now mid. BringsItems steps mount now.number items mid after to) after to) (sym is)
      (now, mid, asks, subst (λ (s : State). Follows s (BringsItems steps mount now.number items mid after to) ((after ≡ now) × (to ≡ mid))) (sym run) rest)
