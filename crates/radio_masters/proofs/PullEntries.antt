-- What a pull applies step by step, as a list of entries.
use Rattle.std.proofs.Common.{◌≡◌, ◌<◌, ℕ, arith, List, [], ◌∷◌, ◌++◌, Option, None, Some, length, refl}
use Rattle.radio_masters.proofs.Words.{chain_one, chain_then, Entry, Event, RelayDown, State, Running, Shut, entry, Chain, Steps, Comes, AppliesAll, turn_by_state, AreOfBytes, AreOfEvent, AreOfEventAnd, AreOfEventIf}
use Rattle.radio_masters.proofs.Words.{AreOfItems, AreOfPulled, IsDownIfShut, IsGoingDown, probe_of, Asks, AsksIf, BringsItems, ComesOf, Follows, GoesDown, GoesDownIfShut, Onwards, Takes, Pulling, NumberedState}
use Rattle.radio_masters.proofs.Words.{event_for, PullItem, items_of, GoesOn, Stops}
use Rattle.radio_relay.specs.Pulled.{PullProgress as AnswerStanding}

module _ {S : Type 0} (steps : Steps S) where
  -- entries of this kind were applied, one after another
  abbrev Applied : S → S → (List Entry → Type 0) → Type 0
  Applied from to Are = (entries : List Entry) × Chain steps from entries to × Are entries

  down_entries : (number : Option ℕ) (from to : S) → GoesDown steps number from to → Applied from to (λ entries. IsGoingDown number entries)
  down_entries None from to same = ([], same, refl)
  down_entries (Some id) from to (reply, step) =
      (entry (RelayDown id) reply ∷ [], chain_one steps from to (entry (RelayDown id) reply) step, (reply, refl))

  shut_entries : (state : State) (number : Option ℕ) (from to : S) → GoesDownIfShut steps state number from to
      → Applied from to (λ entries. IsDownIfShut state number entries)
  shut_entries Running number from to same = ([], same, refl)
  shut_entries (Shut ending) number from to down = down_entries number from to down

  pub event_entries : (number : Option ℕ) (event : Event) (from : S) (after : NumberedState) (to : S) → Asks steps number event from after to
      → Applied from to (λ entries. AreOfEvent number event entries after)
  event_entries number event from after to asks =
      let down = shut_entries after.state after.number asks.mid to asks.goes in
      let first = entry event asks.reply in (
        first ∷ down.0,
        (asks.mid, asks.step, down.1),
        record { reply = asks.reply; down = down.0; in_order = refl; is_answered = asks.is_answered; goes_down = down.2 },
      )

  pub event_entries_if : (number : Option ℕ) (event : Option Event) (from : S) (after : NumberedState) (to : S) → AsksIf steps number event from after to
      → Applied from to (λ entries. AreOfEventIf number event entries after)
  event_entries_if number None from after to (stays, same) = ([], same, (refl, stays))
  event_entries_if number (Some event) from after to asks = event_entries number event from after to asks

  -- the rest, if the pull is not shut
  rest_entries : (state : State) (now after : NumberedState) (mid to : S) (Rest : S → Type 0) (AreRest : List Entry → Type 0)
      → (Rest to → Applied mid to AreRest) → Follows state (Rest to) ((after ≡ now) × (to ≡ mid))
      → Applied mid to (λ later. Follows state (AreRest later) ((after ≡ now) × (later ≡ [])))
  rest_entries Running now after mid to Rest AreRest rest follows = rest follows
  rest_entries (Shut ending) now after mid to Rest AreRest rest (stays, same) = ([], same, (stays, refl))

  items_entries : (mount : List ℕ) (number : Option ℕ) (items : List PullItem) (from : S) (after : NumberedState) (to : S)
      → BringsItems steps mount number items from after to → Applied from to (λ entries. AreOfItems mount number items entries after)
  items_entries mount number [] from after to (stays, same) = ([], same, (refl, stays))
  items_entries mount number (item ∷ items) from after to brings =
      by_event (λ number mid. items_entries mount number items mid after to) (event_for mount number item) brings where
        by_event : ((number : Option ℕ) (mid : S) → BringsItems steps mount number items mid after to
            → Applied mid to (λ later. AreOfItems mount number items later after))
            → (event : Option Event) → Onwards steps number event from (λ now mid. BringsItems steps mount now.number items mid after to) after to
            → Applied from to (λ entries. AreOfEventAnd number event entries (λ now later. AreOfItems mount now.number items later after) after)
        by_event rest None (stays, same) = ([], same, (refl, stays))
        by_event rest (Some event) (now, mid, asks, follows) =
            let first = event_entries number event from now mid asks in
            let later = rest_entries now.state now after mid to (λ last. BringsItems steps mount now.number items mid after last)
            (λ later. AreOfItems mount now.number items later after) (rest now.number mid) follows in (
              first.0 ++ later.0,
              chain_then steps from mid to first.0 later.0 first.1 later.1,
              (now, first.0, later.0, refl, first.2, later.2),
            )

  pulled_entries : (pulling : Pulling) (items : List PullItem) (standing : AnswerStanding) (from : S) (pulling' : Pulling) (state : State) (to : S)
      → ComesOf steps pulling items standing from pulling' state to
      → Applied from to (λ entries. AreOfPulled pulling items standing entries pulling' state)
  pulled_entries pulling items (GoesOn stage) from pulling' state to (after, brings, same, pull) =
      let are = items_entries pulling.mount pulling.number items from after to brings in (are.0, are.1, (after, are.2, same, pull))
  pulled_entries pulling items (Stops fault) from pulling' state to (down, same, pull) =
      let are = down_entries pulling.number from to down in (are.0, are.1, (are.2, same, pull))

  bytes_entries : (pulling : Pulling) (bytes : List ℕ) (from : S) (pulling' : Pulling) (state : State) (to : S)
      → Takes steps pulling bytes from pulling' state to → Applied from to (λ entries. AreOfBytes pulling bytes entries pulling' state)
  bytes_entries pulling bytes from pulling' state to (pulled, is, comes) =
      let are = pulled_entries pulling (items_of pulled.parts) pulled.standing from pulling' state to comes in
      (are.0, are.1, (pulled, is, are.2))

  -- the result of a turn by the state of the pull
  comes_by : (relay : Pulling) (bytes : List ℕ) (from : S) (state : State) (relay' : Pulling) (to : S) → AppliesAll steps relay bytes from relay' state to
      → Comes steps relay bytes from (turn_by_state state) relay' to
  comes_by relay bytes from Running relay' to applies = applies
  comes_by relay bytes from (Shut ending) relay' to applies = applies

  -- some bytes came
  pub taken_comes : (relay : Pulling) (bytes : List ℕ) (from : S) (state : State) (relay' : Pulling) (to : S) → 0 < length bytes
      → Takes steps relay bytes from relay' state to → Comes steps relay bytes from (turn_by_state state) relay' to
  taken_comes relay [] from state relay' to some takes = absurd (omega (arith, some))
  taken_comes relay (byte ∷ bytes) from state relay' to some takes =
      let are = bytes_entries relay (byte ∷ bytes) from relay' state to takes in
      comes_by relay (byte ∷ bytes) from state relay' to (record { entries = are.0; chain = are.1; are = are.2 })

  -- nothing came
  pub asked_comes : (relay : Pulling) (from : S) (state : State) (relay' : Pulling) (to : S) (after : NumberedState)
      → AsksIf steps relay.number (probe_of relay.number) from after to → state ≡ after.state → relay' ≡ record relay { number = after.number }
      → Comes steps relay [] from (turn_by_state state) relay' to
  asked_comes relay from state relay' to after asks stands numbered =
      let are = event_entries_if relay.number (probe_of relay.number) from after to asks in
      comes_by relay [] from state relay' to
      (record { entries = are.0; chain = are.1; are = record { after = after; asks = are.2; stands = stands; numbered = numbered } })
