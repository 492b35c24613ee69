-- The course of a script: the events that are applied, in their order, each with the label of the connection that asked for
-- it.
use Rattle.std.specs.Prelude.{◌≡◌, ℕ, if◌then◌else◌, List, [], ◌∷◌, ◌++◌, map, Option, None, Some}
use Rattle.std.specs.Option.{option_map}
use Rattle.radio_addr.specs.declared.peer.Peer.{Peer}
use Rattle.radio_values.specs.Cleaning.{cleaned}
use Rattle.radio_values.specs.Limits.{max_title}
use Rattle.radio_settings_values.specs.declared.settings.Settings.{Settings}
use Rattle.radio_access.specs.Lists.{Lists}
use Rattle.radio_events.specs.declared.entry.Entry.{Entry}
use Rattle.radio_events.specs.declared.event.Event.{Event}
use Rattle.radio_events.specs.declared.event.Event.TheVariants.{Arrive, Draw, Title, Leave, Clock}
use Rattle.radio_parts_station.specs.World.{World}
use Rattle.radio_core.specs.Handing.{is_same_number}
use Rattle.radio_parts.specs.Step.{Step, reply_to, world_after}
use Rattle.radio_relay.specs.Pulling.{Pulling, NumberedState}
use Rattle.radio_relay.specs.Course.{AsksIf, GoesDown, Takes}
use Rattle.radio_session.specs.declared.session.Says.{Says}
use Rattle.radio_answers.specs.declared.web_answers.WebAnswers.{WebAnswers}
use Rattle.radio_events.specs.declared.state.State.{State}
use Rattle.radio_events.specs.declared.state.State.TheVariants.{Running, Shut}
use Rattle.radio_session.specs.Conversation.{Conversation}
use Rattle.radio_events.specs.Servers.{Steps}
use Rattle.radio_session.specs.Exchanges.{is_leave}
use Rattle.radio_session.specs.Hearing.{EventReading, IsHeard}
use Rattle.radio_session.specs.Saying.{said}
use Rattle.radio_script.specs.declared.delivery.Delivery.{Delivery}
use Rattle.radio_script.specs.declared.delivery.Delivery.TheVariants.{Open, Pull, To, Clock as ClockIs}
use Rattle.radio_script.specs.declared.delivery.Input.{Input}
use Rattle.radio_script.specs.declared.delivery.Input.TheVariants.{Data, Room, Title as Named, End}
use Rattle.radio_script.specs.Runs.{Conduct, Runs}
use Rattle.radio_floor.specs.declared.labelled.Connection.{Connection}
use Rattle.radio_floor.specs.declared.labelled.Connection.TheVariants.{Client, Relay}
use Rattle.radio_floor.specs.ScriptState.{ScriptState, opening_script, connection_of}
use Rattle.radio_floor.specs.Transcript.{conduct}

-- an event is applied; the connection of the label asked for it, if any did: no connection asks for a
-- moment
pub record Happening : Type 0 where
  pub label : Option ℕ
  pub event : Event

abbrev pub on : ℕ → Event → Happening
on label event = record { label = Some label; event = event }

abbrev pub events_in : List Happening → List Event
events_in course = map (λ h. h.event) course

abbrev pub applied_entry : World → Event → Entry
applied_entry w event = record { event = event; reply = reply_to w event }

abbrev pub entry_on : World → Happening → ℕ → List Entry
entry_on w happening label = (if is_same_number label happening.label then applied_entry w happening.event ∷ [] else [])

-- from this state: what is applied on the connection of the label, with the replies
abbrev pub log_on : World → List Happening → ℕ → List Entry
log_on w [] label = []
log_on w (happening ∷ happenings) label = entry_on w happening label ++ log_on (world_after w happening.event) happenings label

-- Of the events that a client's connection asks for.

-- this event is applied, and the others if the connection goes on. If it is shut, its client leaves, unless the event was its leaving
abbrev pub and_then : ℕ → Event → State → List Event → List Event
and_then id event Running others = event ∷ others
and_then id event (Shut ending) others = event ∷ (if is_leave event then [] else Leave id ∷ [])

-- those that are applied, from this state, if replies are written so
abbrev pub applied : World → ℕ → Says → List Event → List Event
applied w id says [] = []
applied w id says (event ∷ events) =
    let told = said says (reply_to w event) in and_then id event told.state (applied (world_after w event) id told.says events)

-- what is asked when something arrives on a client's connection, and the conversation then
abbrev pub IsAsked : Conversation → Input → EventReading → Type 0
IsAsked conversation (Data bytes) heard = IsHeard conversation bytes heard
IsAsked conversation (Room room) heard = heard ≡ record { events = Draw conversation.id room ∷ []; conversation = conversation }
IsAsked conversation (Named text) heard = heard ≡ record { events = Title conversation.id (cleaned max_title text) ∷ []; conversation = conversation }
IsAsked conversation End heard = heard ≡ record { events = Leave conversation.id ∷ []; conversation = conversation }

-- Of those that a relay's connection asks for.

-- the server, and what was applied to it
pub record Noted : Type 0 where
  pub world : World
  pub events : List Event

abbrev pub nothing_noted : World → Noted
nothing_noted w = record { world = w; events = [] }

-- an event is applied, and noted
abbrev pub noting : Steps Noted
noting old event reply new = Step old.world event reply new.world × (new.events ≡ old.events ++ event ∷ [])

-- what arrives on a relay's connection has that result
abbrev pub ComesToNoted : World → Pulling → Input → Noted → Type 0
ComesToNoted w pulling (Data bytes) done =
    (now : Pulling) × (ends : State) × Takes noting pulling bytes (nothing_noted w) now ends done
ComesToNoted w pulling (Room room) done =
    (after : NumberedState) × AsksIf noting pulling.number (option_map (λ id. Draw id room) pulling.number) (nothing_noted w) after done
ComesToNoted w pulling (Named text) done =
    (after : NumberedState) × AsksIf noting pulling.number (option_map (λ id. Title id (cleaned max_title text)) pulling.number) (nothing_noted w) after done
ComesToNoted w pulling End done = GoesDown noting pulling.number (nothing_noted w) done

-- what happens on a connection when something arrives on it
abbrev pub HappensOn : ScriptState → ℕ → Connection → Input → List Happening → Type 0
HappensOn state label (Client conversation) input happenings =
    (heard : EventReading) × IsAsked conversation input heard
    × (happenings ≡ map (on label) (applied state.world heard.conversation.id heard.conversation.says heard.events))
HappensOn state label (Relay pulling) input happenings =
    (done : Noted) × ComesToNoted state.world pulling input done × (happenings ≡ map (on label) done.events)

-- on a connection that is there; nothing happens on one that was shut, or never opened
abbrev pub HappensThere : ScriptState → ℕ → Input → List Happening → Option (Option Connection) → Type 0
HappensThere state label input happenings (Some (Some connection)) = HappensOn state label connection input happenings
HappensThere state label input happenings no_connection = happenings ≡ []

-- a connection comes under a new label; a label is opened once
abbrev pub arrival_at_label : ℕ → Peer → Option (Option Connection) → List Happening
arrival_at_label label peer None = on label (Arrive peer) ∷ []
arrival_at_label label peer (Some connection) = []

-- what happens at a delivery; nothing does when a relay connects
abbrev pub Happens : ScriptState → Delivery → List Happening → Type 0
Happens state (Open label peer) happenings = happenings ≡ arrival_at_label label peer (connection_of state.connections label)
Happens state (Pull label mount) happenings = happenings ≡ []
Happens state (To label input) happenings = HappensThere state label input happenings (connection_of state.connections label)
Happens state (ClockIs ms) happenings = happenings ≡ record { label = None; event = Clock ms } ∷ []

-- the state, and what has happened
pub record ScriptHistory : Type 0 where
  pub state : ScriptState
  pub past : List Happening

-- a delivery is performed, and what happens at it is noted behind what has happened before
abbrev pub courses : WebAnswers → Conduct ScriptHistory
courses web old delivery lines new =
    conduct web old.state delivery lines new.state
    × (happenings : List Happening) × Happens old.state delivery happenings × (new.past ≡ old.past ++ happenings)

-- the deliveries yield this text, and this course
-- rule: Line of a script
abbrev pub YieldsCourse : WebAnswers → Settings → Lists → List Delivery → List ℕ → Option ℕ → List Happening → Type 0
YieldsCourse web settings lists deliveries text stop course = (last : ScriptState)
    × Runs (courses web) (record { state = opening_script settings lists; past = [] }) 1 deliveries text stop (record { state = last; past = course })
