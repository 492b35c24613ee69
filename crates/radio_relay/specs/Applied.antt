-- What is applied for a relay's pull: events with their replies, in order. `Course` says it step by step, over a server.
use Rattle.std.specs.Prelude.{◌≡◌, ◌⊎◌, ℕ, Bool, true, false, List, [], ◌∷◌, ◌++◌, Option, None, Some}
use Rattle.std.specs.Option.{option_map}
use Rattle.radio_events.specs.declared.entry.Entry.{Entry}
use Rattle.radio_events.specs.declared.event.Event.{Event}
use Rattle.radio_events.specs.declared.event.Event.TheVariants.{Draw, RelayDown}
use Rattle.radio_events.specs.declared.reply.Reply.{Reply}
use Rattle.radio_events.specs.declared.state.Ending.TheVariants.{BadPull}
use Rattle.radio_events.specs.declared.state.State.{State}
use Rattle.radio_events.specs.declared.state.State.TheVariants.{Running, Shut}
use Rattle.radio_events.specs.Events.{entry}
use Rattle.radio_relay.specs.Course.{Follows}
use Rattle.radio_relay.specs.Pulling.{Pulling, NumberedState, state_after_reply, pulling_begun, event_for, is_shut, running_pull}
use Rattle.radio_relay.specs.declared.items.PullItem.{PullItem}
use Rattle.radio_relay.specs.declared.pull.PullStage.TheVariants.{Over}
use Rattle.radio_relay.specs.Items.{items_of}
use Rattle.radio_relay.specs.Pulled.{GoesOn, IsPulledAt, Pulled, PullProgress as AnswerStanding, Stops}

-- a relay that is up goes down, and one that is not does nothing
-- rule: Relay goes down
abbrev pub IsGoingDown : Option ℕ → List Entry → Type 0
IsGoingDown None entries = entries ≡ []
IsGoingDown (Some id) entries = (reply : Reply) × (entries ≡ entry (RelayDown id) reply ∷ [])

-- so it is if the pull is shut
abbrev pub IsDownIfShut : State → Option ℕ → List Entry → Type 0
IsDownIfShut Running number entries = entries ≡ []
IsDownIfShut (Shut ending) number entries = IsGoingDown number entries

-- an event of the relay, and its going down if the reply shuts the pull
-- rule: Relay goes down
pub record AreOfEvent (number : Option ℕ) (event : Event) (entries : List Entry) (after : NumberedState) : Type 0 where
  pub reply : Reply
  pub down : List Entry
  pub in_order : entries ≡ entry event reply ∷ down
  pub is_answered : after ≡ state_after_reply number reply
  pub goes_down : IsDownIfShut after.state after.number down

-- the same if the relay asks for an event
abbrev pub AreOfEventIf : Option ℕ → Option Event → List Entry → NumberedState → Type 0
AreOfEventIf number None entries after = (entries ≡ []) × (after ≡ running_pull number)
AreOfEventIf number (Some event) entries after = AreOfEvent number event entries after

-- an event and then the rest, if an event is asked for; if the pull is shut there is no rest
abbrev pub AreOfEventAnd : Option ℕ → Option Event → List Entry → (NumberedState → List Entry → Type 0) → NumberedState → Type 0
AreOfEventAnd number None entries Rest after = (entries ≡ []) × (after ≡ running_pull number)
AreOfEventAnd number (Some event) entries Rest after =
    (now : NumberedState) × (first : List Entry) × (later : List Entry) × (entries ≡ first ++ later) × AreOfEvent number event first now
    × Follows now.state (Rest now later) ((after ≡ now) × (later ≡ []))

-- what items ask for, one after another, until the pull is shut
-- rule: Pulled stream
abbrev pub AreOfItems : List ℕ → Option ℕ → List PullItem → List Entry → NumberedState → Type 0
AreOfItems mount number [] entries after = (entries ≡ []) × (after ≡ running_pull number)
AreOfItems mount number (item ∷ items) entries after =
    AreOfEventAnd number (event_for mount number item) entries (λ now later. AreOfItems mount now.number items later after) after

-- what is pulled in; a fault of the answer shuts the pull
abbrev pub AreOfPulled : Pulling → List PullItem → AnswerStanding → List Entry → Pulling → State → Type 0
AreOfPulled pulling items (GoesOn stage) entries pulling' state =
    (after : NumberedState) × AreOfItems pulling.mount pulling.number items entries after × (state ≡ after.state)
    × (pulling' ≡ record { mount = pulling.mount; number = after.number; stage = stage })
AreOfPulled pulling items (Stops fault) entries pulling' state =
    IsGoingDown pulling.number entries × (state ≡ Shut BadPull) × (pulling' ≡ record pulling { stage = Over })

-- what the next bytes of the master's answer bring
-- rule: Pulled stream
abbrev pub AreOfBytes : Pulling → List ℕ → List Entry → Pulling → State → Type 0
AreOfBytes pulling bytes entries pulling' state =
    (pulled : Pulled) × IsPulledAt pulling.stage bytes pulled
    × AreOfPulled pulling (items_of pulled.parts) pulled.standing entries pulling' state

-- a draw without room, if the relay is up
abbrev pub probe_of : Option ℕ → Option Event
probe_of number = option_map (λ id. Draw id 0) number

-- a draw without room, by whose reply the relay goes on or not
-- rule: Turn of a pull
pub record IsProbed (relay : Pulling) (entries : List Entry) (relay' : Pulling) (state : State) : Type 0 where
  pub after : NumberedState
  pub asks : AreOfEventIf relay.number (probe_of relay.number) entries after
  pub stands : state ≡ after.state
  pub numbered : relay' ≡ record relay { number = after.number }

-- what is applied in a turn in which these bytes came: what they bring, or the draw if nothing came
abbrev pub AreOfTurn : Pulling → List ℕ → List Entry → Pulling → State → Type 0
AreOfTurn relay [] entries relay' state = IsProbed relay entries relay' state
AreOfTurn relay (byte ∷ bytes) entries relay' state = AreOfBytes relay (byte ∷ bytes) entries relay' state

-- memory was refused in such a turn: nothing was applied, or the first of what is applied in it
abbrev pub AreAtMostOfTurn : Pulling → List ℕ → List Entry → Type 0
AreAtMostOfTurn relay bytes entries =
    (entries ≡ []) ⊎ ((more : List Entry) × (relay' : Pulling) × (state : State) × AreOfTurn relay bytes (entries ++ more) relay' state)

-- the number of a relay after these entries
abbrev pub number_after : Option ℕ → List Entry → Option ℕ
number_after number [] = number
number_after number (e ∷ entries) = number_after (state_after_reply number e.reply).number entries

-- a pull so far: the bytes that came of the master's answer, what was applied, how far it has come, and whether it is over
pub record PullSoFar : Type 0 where
  pub given : List ℕ
  pub entries : List Entry
  pub pulling : Pulling
  pub is_over : Bool

-- A pull from its beginning on: turn after turn, until it is shut or memory is refused, and then its going down.
-- rule: Pulled stream
pub data PullCourse (mount : List ℕ) : PullSoFar → Type 0 where
  begins : PullCourse mount (record { given = []; entries = []; pulling = pulling_begun mount; is_over = false })
  has_turn : (pull : PullSoFar) → PullCourse mount pull → pull.is_over ≡ false → (bytes : List ℕ) (made : List Entry) (pulling : Pulling) (state : State)
      → AreOfTurn pull.pulling bytes made pulling state
      → PullCourse mount (record { given = pull.given ++ bytes; entries = pull.entries ++ made; pulling = pulling; is_over = is_shut state })
  is_refused : (pull : PullSoFar) → PullCourse mount pull → pull.is_over ≡ false → (bytes : List ℕ) (made : List Entry)
      → AreAtMostOfTurn pull.pulling bytes made
      → PullCourse mount (record {
        given = pull.given ++ bytes;
        entries = pull.entries ++ made;
        pulling = record pull.pulling { number = number_after pull.pulling.number made };
        is_over = true;
      })
  goes_down : (pull : PullSoFar) → PullCourse mount pull → (made : List Entry) → IsGoingDown pull.pulling.number made
      → PullCourse mount (record pull { entries = pull.entries ++ made; is_over = true })
