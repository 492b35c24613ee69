-- The events that deliveries yield.
use Rattle.std.specs.Prelude.{◌≡◌, ◌⊎◌, ℕ, List, [], ◌∷◌, ◌++◌, map, Option, None, Some}
use Rattle.radio_addr.specs.declared.peer.Peer.{Peer}
use Rattle.radio_values.specs.Cleaning.{cleaned}
use Rattle.radio_values.specs.Limits.{max_title}
use Rattle.radio_settings_values.specs.declared.settings.Settings.{Settings}
use Rattle.radio_access.specs.Lists.{Lists}
use Rattle.radio_events.specs.declared.event.Event.{Event}
use Rattle.radio_events.specs.declared.event.Event.TheVariants.{Arrive, Draw, Title, Leave, RelayDown, Clock}
use Rattle.radio_core.specs.Run.{world_after_all}
use Rattle.radio_relay.specs.Items.{items_of}
use Rattle.radio_relay.specs.Pulled.{IsPulledAt, Pulled}
use Rattle.radio_relay.specs.Pulling.{Pulling, event_of}
use Rattle.radio_answers.specs.declared.web_answers.WebAnswers.{WebAnswers}
use Rattle.radio_session.specs.Conversation.{Conversation}
use Rattle.radio_session.specs.Hearing.{EventReading, IsHeard}
use Rattle.radio_script.specs.declared.delivery.Delivery.{Delivery}
use Rattle.radio_script.specs.declared.delivery.Delivery.TheVariants.{Open, To, Clock as ClockIs}
use Rattle.radio_script.specs.declared.delivery.Input.{Input}
use Rattle.radio_script.specs.declared.delivery.Input.TheVariants.{Data, Room, Title as Named, End}
use Rattle.radio_script.specs.Runs.{Conduct, Runs}
use Rattle.radio_floor.specs.declared.labelled.Connection.TheVariants.{Client, Relay}
use Rattle.radio_floor.specs.ScriptState.{ScriptState, opening_script, connection_of}
use Rattle.radio_floor.specs.Transcript.{conduct, IsTranscriptOf}

-- what is asked of the server when something arrives on a client's connection
abbrev pub IsAskedBy : Conversation → Input → List Event → Type 0
IsAskedBy conversation (Data bytes) asked = (heard : EventReading) × IsHeard conversation bytes heard × (asked ≡ heard.events)
IsAskedBy conversation (Room room) asked = asked ≡ Draw conversation.id room ∷ []
IsAskedBy conversation (Named text) asked = asked ≡ Title conversation.id (cleaned max_title text) ∷ []
IsAskedBy conversation End asked = asked ≡ Leave conversation.id ∷ []

-- what is asked of the server when something arrives on the connection of the relay that has this number, or is given
-- it
abbrev pub IsAskedByRelay : Pulling → ℕ → Input → List Event → Type 0
IsAskedByRelay pulling id (Data bytes) asked =
    (pulled : Pulled) × IsPulledAt pulling.stage bytes pulled × (asked ≡ map (event_of pulling.mount id) (items_of pulled.parts))
IsAskedByRelay pulling id (Room room) asked = asked ≡ Draw id room ∷ []
IsAskedByRelay pulling id (Named text) asked = asked ≡ Title id (cleaned max_title text) ∷ []
IsAskedByRelay pulling id End asked = asked ≡ []

-- a relay that is up has its number; one that is not may be given any
abbrev pub MayHave : Option ℕ → ℕ → Type 0
MayHave None id = Unit {0}
MayHave (Some number) id = number ≡ id

-- of what is asked, the first events come about, and behind them there may be the last; how many these are follows from the state that
-- they lead to
pub record ComeAbout (last : Event) (asked events : List Event) : Type 0 where
  pub front : List Event
  pub rest : List Event
  pub in_order : asked ≡ front ++ rest
  pub come : (events ≡ front) ⊎ (events ≡ front ++ last ∷ [])

-- a delivery yields these events, if they lead to the state that it leads to
pub data ComesToEvents (state : ScriptState) : Delivery → List Event → Type 0 where
  -- none: its label is at fault, its connection was shut before, a relay connects, or its event changes nothing and is left out
  Nothing : (delivery : Delivery) → ComesToEvents state delivery []
  Arrives : (label : ℕ) (peer : Peer) → ComesToEvents state (Open label peer) (Arrive peer ∷ [])
  Ticks : (ms : ℕ) → ComesToEvents state (ClockIs ms) (Clock ms ∷ [])
  Exchanges : (label : ℕ) (input : Input) (conversation : Conversation) (asked events : List Event)
      → connection_of state.connections label ≡ Some (Some (Client conversation)) → IsAskedBy conversation input asked
      → ComeAbout (Leave conversation.id) asked events → ComesToEvents state (To label input) events
  Pulls : (label : ℕ) (input : Input) (pulling : Pulling) (id : ℕ) (asked events : List Event)
      → connection_of state.connections label ≡ Some (Some (Relay pulling)) → MayHave pulling.number id → IsAskedByRelay pulling id input asked
      → ComeAbout (RelayDown id) asked events → ComesToEvents state (To label input) events

-- the state, and the events that have led there from the opening state
pub record Traced : Type 0 where
  pub state : ScriptState
  pub events : List Event

-- a delivery is performed, and its events, which lead the server from its state to the next, are noted behind those before
abbrev pub traces : WebAnswers → Conduct Traced
traces web old delivery lines new =
    conduct web old.state delivery lines new.state
    × (events : List Event) × ComesToEvents old.state delivery events × (new.events ≡ old.events ++ events)
    × (new.state.world ≡ world_after_all old.state.world events)

-- the deliveries yield this text and these events, in their order
abbrev pub ComeToEvents : WebAnswers → Settings → Lists → List Delivery → List ℕ → Option ℕ → List Event → Type 0
ComeToEvents web settings lists deliveries text stop events = (last : ScriptState)
    × Runs (traces web) (record { state = opening_script settings lists; events = [] }) 1 deliveries text stop (record { state = last; events = events })

-- deliveries that yield a transcript yield events
abbrev pub ScriptsComeToEvents : Type 0
ScriptsComeToEvents = (web : WebAnswers) (settings : Settings) (lists : Lists) (deliveries : List Delivery) (text : List ℕ) (stop : Option ℕ)
    → IsTranscriptOf web settings lists deliveries text stop → (events : List Event) × ComeToEvents web settings lists deliveries text stop events
