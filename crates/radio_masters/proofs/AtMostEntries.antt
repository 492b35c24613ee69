-- What a pull applied when memory was refused, as the first of the entries of a whole turn.
use Rattle.std.proofs.Common.{◌≡◌, inl, inr, ◌<◌, ℕ, arith, List, [], ◌∷◌, ◌++◌, Option, None, Some, length, refl, sym, ap, subst, ◌∙◌, append_assoc}
use Rattle.radio_masters.proofs.Words.{chain_one, chain_then, Entry, Event, RelayDown, State, Running, Shut, entry, Chain, Steps, AppliesAtMost, AreOfEvent, AreOfEventAnd, AreOfEventIf, AreOfItems, AreOfPulled}
use Rattle.radio_masters.proofs.Words.{AreOfTurn, IsDownIfShut, IsGoingDown, number_after, probe_of, Asks, AsksAtMost, AsksAtMostIf, BringsAtMost, Follows, OnwardsAtMost, TakesAtMost, Pulling, NumberedState}
use Rattle.radio_masters.proofs.Words.{state_after_reply, event_for, running_pull, PullItem, items_of, GoesOn}
use Rattle.radio_events.specs.declared.reply.Reply.{Reply}
use Rattle.radio_events.specs.declared.reply.Reply.TheVariants.{Stray}
use Rattle.radio_masters.proofs.PullEntries.{event_entries}
use Rattle.radio_relay.specs.Pulled.{PullProgress as AnswerStanding}

abbrev nil : List Entry
nil = []

-- a relay can go down
down_somehow : (number : Option ℕ) → (down : List Entry) × IsGoingDown number down
down_somehow None = ([], refl)
down_somehow (Some id) = (entry (RelayDown id) Stray ∷ [], (Stray, refl))

shut_somehow : (state : State) (number : Option ℕ) → (down : List Entry) × IsDownIfShut state number down
shut_somehow Running number = ([], refl)
shut_somehow (Shut ending) number = down_somehow number

-- an event with its reply, and what may come behind it
event_somehow : (number : Option ℕ) (event : Event) (reply : Reply) → (down : List Entry) × AreOfEvent number event (entry event reply ∷ down) (state_after_reply number reply)
event_somehow number event reply =
    let down = shut_somehow (state_after_reply number reply).state (state_after_reply number reply).number in
    (down.0, record { reply = reply; down = down.0; in_order = refl; is_answered = refl; goes_down = down.1 })

-- the number after an event by which the pull goes on, and later ones
numbered_then : (number : Option ℕ) (event : Event) (now : NumberedState) → now.state ≡ Running → (first : List Entry) → AreOfEvent number event first now
    → (later : List Entry) → number_after now.number later ≡ number_after number (first ++ later)
numbered_then number event now run first are later =
    let none : are.down ≡ [] = subst (λ (s : State). IsDownIfShut s now.number are.down) run are.goes_down in
    ap (λ (s : NumberedState). number_after s.number later) are.is_answered
    ∙ sym (ap (λ (es : List Entry). number_after number (es ++ later)) are.in_order
    ∙ ap (λ (es : List Entry). number_after (state_after_reply number are.reply).number (es ++ later)) none)

module _ (mount : List ℕ) where
  -- these are the first of what the items ask for
  abbrev AreFirst : Option ℕ → List PullItem → List Entry → Type 0
  AreFirst number items entries = (more : List Entry) × (after : NumberedState) × AreOfItems mount number items (entries ++ more) after

  abbrev AreFirstAnd : Option ℕ → Option Event → List PullItem → List Entry → Type 0
  AreFirstAnd number event items entries = (more : List Entry) × (after : NumberedState)
      × AreOfEventAnd number event (entries ++ more) (λ now later. AreOfItems mount now.number items later after) after

  abbrev RestAfter : List PullItem → NumberedState → Type 0
  RestAfter items now = (later : List Entry) × (after : NumberedState)
      × Follows now.state (AreOfItems mount now.number items later after) ((after ≡ now) × (later ≡ []))

  rest_by : (items : List PullItem) (now : NumberedState) → AreFirst now.number items [] → (state : State) → now.state ≡ state → RestAfter items now
  rest_by items now first Running run = (
    first.0,
    first.1,
    subst (λ (s : State). Follows s (AreOfItems mount now.number items first.0 first.1) ((first.1 ≡ now) × (first.0 ≡ []))) (sym run) first.2,
  )
  rest_by items now first (Shut ending) shut =
      ([], now, subst (λ (s : State). Follows s (AreOfItems mount now.number items [] now) ((now ≡ now) × (nil ≡ nil))) (sym shut) (refl, refl))

  -- an event with its reply is the first of the entries of the event and of the rest
  event_first : (number : Option ℕ) (event : Event) (items : List PullItem) (reply : Reply) → AreFirst (state_after_reply number reply).number items []
      → AreFirstAnd number (Some event) items (entry event reply ∷ [])
  event_first number event items reply first =
      let now = state_after_reply number reply in
      let one = event_somehow number event reply in
      let rest = rest_by items now first now.state refl in
      (one.0 ++ rest.0, rest.1, (now, entry event reply ∷ one.0, rest.0, refl, one.1, rest.2))

  -- nothing is the first of anything
  none_first : (items : List PullItem) (number : Option ℕ) → AreFirst number items []
  none_first [] number = ([], running_pull number, (refl, refl))
  none_first (item ∷ items) number = by_event (event_for mount number item) (none_first items number) where
    by_event : (event : Option Event) → AreFirst number items [] → AreFirstAnd number event items []
    by_event None rest = ([], running_pull number, (refl, refl))
    by_event (Some event) rest = let some = event_first number event items Stray rest in (entry event Stray ∷ some.0, some.1, some.2)

  module _ {S : Type 0} (steps : Steps S) (refuses : S → Event → Type 0) where
    pub record Front (number : Option ℕ) (from : S) (number' : Option ℕ) (to : S) (Are : List Entry → Type 0) : Type 0 where
      pub entries : List Entry
      pub chain : Chain steps from entries to
      pub first : Are entries
      pub numbered : number' ≡ number_after number entries

    nothing_made : (number : Option ℕ) (from : S) (number' : Option ℕ) (to : S) (Are : List Entry → Type 0) → Are [] → (number' ≡ number) × (to ≡ from)
        → Front number from number' to Are
    nothing_made number from number' to Are none (same, stays) = record { entries = []; chain = stays; first = none; numbered = same }

    -- what items brought before memory was refused
    items_front : (items : List PullItem) (number : Option ℕ) (from : S) (number' : Option ℕ) (to : S) → BringsAtMost steps refuses mount number items from number' to
        → Front number from number' to (AreFirst number items)
    items_front [] number from number' to brings = absurd brings
    items_front (item ∷ items) number from number' to (inl (making, same, stays)) =
        nothing_made number from number' to (AreFirst number (item ∷ items)) (none_first (item ∷ items) number) (same, stays)
    items_front (item ∷ items) number from number' to (inr at) =
        by_event (λ now mid rest. items_front items now mid number' to rest) (event_for mount number item) (none_first (item ∷ items) number) at where
          Rest : Type 0
          Rest = (now : Option ℕ) (mid : S) → BringsAtMost steps refuses mount now items mid number' to → Front now mid number' to (AreFirst now items)

          one_made : (event : Event) → AreFirstAnd number (Some event) items [] → AsksAtMost steps refuses number event from number' to
              → Front number from number' to (AreFirstAnd number (Some event) items)
          one_made event none (inl (refused, same, stays)) = nothing_made number from number' to (AreFirstAnd number (Some event) items) none (same, stays)
          one_made event none (inr (reply, step, shut, same, refused)) = record {
            entries = entry event reply ∷ [];
            chain = chain_one steps from to (entry event reply) step;
            first = event_first number event items reply (none_first items (state_after_reply number reply).number);
            numbered = same;
          }

          then_made : (event : Event) (now : NumberedState) (mid : S) → Asks steps number event from now mid → now.state ≡ Running
              → Front now.number mid number' to (AreFirst now.number items) → Front number from number' to (AreFirstAnd number (Some event) items)
          then_made event now mid asks run later =
              let made = event_entries steps number event from now mid asks in
              record {
                entries = made.0 ++ later.entries;
                chain = chain_then steps from mid to made.0 later.entries made.1 later.chain;
                first = (
                  later.first.0,
                  later.first.1,
                  (
                    now,
                    made.0,
                    later.entries ++ later.first.0,
                    append_assoc made.0 later.entries later.first.0,
                    made.2,
                    subst (λ (s : State). Follows s (AreOfItems mount now.number items (later.entries ++ later.first.0) later.first.1)
                        ((later.first.1 ≡ now) × (later.entries ++ later.first.0 ≡ []))) (sym run) later.first.2,
                  ),
                );
                numbered = later.numbered ∙ numbered_then number event now run made.0 made.2 later.entries;
              }

          by_event : Rest → (event : Option Event) → AreFirstAnd number event items [] → OnwardsAtMost steps refuses number event from
              (λ now mid. BringsAtMost steps refuses mount now items mid number' to) number' to → Front number from number' to (AreFirstAnd number event items)
          by_event all None none at = absurd at
          by_event all (Some event) none (inl at) = one_made event none at
          by_event all (Some event) none (inr (now, mid, asks, run, rest)) = then_made event now mid asks run (all now.number mid rest)

module _ {S : Type 0} (steps : Steps S) (refuses : S → Event → Type 0) where
  -- memory was refused as bytes came
  pub taken_at_most : (relay : Pulling) (bytes : List ℕ) (from : S) (relay' : Pulling) (to : S) → 0 < length bytes
      → TakesAtMost steps refuses relay bytes from relay'.number to → AppliesAtMost steps relay bytes from relay' to
  taken_at_most relay [] from relay' to some takes = absurd (omega (arith, some))
  taken_at_most relay (byte ∷ bytes) from relay' to some (inl (same, stays)) = record { entries = []; chain = stays; are = inl refl; numbered = same }
  taken_at_most relay (byte ∷ bytes) from relay' to some (inr (items, stage, (pulled, is, answers), brings)) =
      let f = items_front relay.mount steps refuses items relay.number from relay'.number to brings in
      let after = f.first.1 in
      let last : Pulling = record { mount = relay.mount; number = after.number; stage = stage } in
      let all = f.entries ++ f.first.0 in
      let goes : AreOfPulled relay items (GoesOn stage) all last after.state = (after, f.first.2, refl, refl) in
      record {
        entries = f.entries;
        chain = f.chain;
        are = inr (
          f.first.0,
          last,
          after.state,
          (
            pulled,
            is,
            subst (λ (st : AnswerStanding). AreOfPulled relay (items_of pulled.parts) st all last after.state) (sym answers.goes_on)
                (subst (λ (its : List PullItem). AreOfPulled relay its (GoesOn stage) all last after.state) answers.brought goes),
          ),
        );
        numbered = f.numbered;
      }

  -- memory was refused as nothing came
  pub asked_at_most : (relay : Pulling) (from : S) (relay' : Pulling) (to : S) → AsksAtMostIf steps refuses relay.number (probe_of relay.number) from relay'.number to
      → AppliesAtMost steps relay [] from relay' to
  asked_at_most relay from relay' to asks = by_event (probe_of relay.number) refl asks where
    probed : (event : Event) → probe_of relay.number ≡ Some event → (reply : Reply)
        → (more : List Entry) × (last : Pulling) × (state : State) × AreOfTurn relay [] (entry event reply ∷ more) last state
    probed event is reply =
        let one = event_somehow relay.number event reply in
        let after = state_after_reply relay.number reply in (
          one.0,
          record relay { number = after.number },
          after.state,
          record {
            after = after;
            asks = subst (λ (e : Option Event). AreOfEventIf relay.number e (entry event reply ∷ one.0) after) (sym is) one.1;
            stands = refl;
            numbered = refl;
          },
        )

    by_event : (event : Option Event) → probe_of relay.number ≡ event → AsksAtMostIf steps refuses relay.number event from relay'.number to
        → AppliesAtMost steps relay [] from relay' to
    by_event None is asked = absurd asked
    by_event (Some event) is (inl (refused, same, stays)) = record { entries = []; chain = stays; are = inl refl; numbered = same }
    by_event (Some event) is (inr (reply, step, shut, same, refused)) = record {
      entries = entry event reply ∷ [];
      chain = chain_one steps from to (entry event reply) step;
      are = inr (probed event is reply);
      numbered = same;
    }
