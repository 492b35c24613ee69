-- The server behind a script, and the result of each delivery.
use Rattle.std.specs.Prelude.{◌≡◌, ℕ, Bool, ◌==◌, List, [], ◌∷◌, Option, None, Some, find, if◌then◌else◌}
use Rattle.std.specs.Str.{bytes_eq}
use Rattle.std.specs.Option.{option_map}
use Rattle.radio_events.specs.declared.event.Event.{Event}
use Rattle.radio_events.specs.declared.event.Event.TheVariants.{Arrive, Draw, Title, Leave, Clock}
use Rattle.radio_events.specs.declared.reply.Reply.{Reply}
use Rattle.radio_events.specs.declared.reply.Reply.TheVariants.{Arrived}
use Rattle.radio_addr.specs.declared.peer.Peer.{Peer}
use Rattle.radio_values.specs.Cleaning.{cleaned}
use Rattle.radio_values.specs.Limits.{max_title}
use Rattle.radio_settings_values.specs.declared.settings.Settings.{Settings}
use Rattle.radio_settings_values.specs.declared.settings.RelaySetting.{RelaySetting}
use Rattle.radio_values.specs.MountName.{is_mount_name}
use Rattle.radio_relay.specs.Request.{request_text}
use Rattle.radio_relay.specs.Pulling.{Pulling, NumberedState, pulling_begun}
use Rattle.radio_relay.specs.Course.{AsksIf, GoesDown, Takes}
use Rattle.radio_access.specs.Lists.{Lists}
use Rattle.radio_parts_station.specs.World.{World, opening}
use Rattle.radio_tables.specs.Lists.{update_first, placed}
use Rattle.std.specs.declared.cmp.Ordering.{Ordering}
use Rattle.std.specs.Ordering.{nat_cmp}
use Rattle.radio_parts.specs.Step.{Step, reply_to, world_after}
use Rattle.radio_events.specs.declared.state.State.{State}
use Rattle.radio_events.specs.declared.state.State.TheVariants.{Running, Shut}
use Rattle.radio_events.specs.declared.state.Ending.TheVariants.{Done}
use Rattle.radio_script.specs.declared.delivery.Delivery.{Delivery}
use Rattle.radio_script.specs.declared.delivery.Delivery.TheVariants.{Open, Pull, To, Clock as ClockIs}
use Rattle.radio_script.specs.declared.delivery.Input.{Input}
use Rattle.radio_script.specs.declared.delivery.Input.TheVariants.{Data, Room, Title as Named, End}
use Rattle.radio_floor.specs.declared.labelled.Labelled.{Labelled}
use Rattle.radio_floor.specs.declared.labelled.Connection.{Connection}
use Rattle.radio_floor.specs.declared.labelled.Connection.TheVariants.{Client, Relay}
use Rattle.radio_script.specs.TranscriptLines.{answer_lines}
use Rattle.radio_events.specs.Endings.{ending_word}
use Rattle.radio_answers.specs.declared.web_answers.WebAnswers.{WebAnswers}
use Rattle.radio_session.specs.Conversation.{asking, Conversation, fresh, saying_now}
use Rattle.radio_session.specs.Hearing.{EventReading, IsHeard}
use Rattle.radio_session.specs.Saying.{said}
use Rattle.radio_floor.specs.Exchanges.{exchanged}

-- the server's state, and the connections of the labels opened so far, in rising order; a connection that was shut is none
pub record ScriptState : Type 0 where
  pub world : World
  pub connections : List Labelled

-- no label was opened yet
abbrev pub opening_script : Settings → Lists → ScriptState
opening_script settings lists = record { world = opening settings lists; connections = [] }

abbrev pub has_label : ℕ → Labelled → Bool
has_label label connection = connection.label == label

-- labels are in rising order
abbrev pub by_label : Labelled → Labelled → Ordering
by_label a b = nat_cmp a.label b.label

-- what became of the label, if it was opened
abbrev pub connection_of : List Labelled → ℕ → Option (Option Connection)
connection_of connections label = option_map (λ labelled. labelled.connection) (find (has_label label) connections)

abbrev pub holding : Option Connection → Labelled → Labelled
holding connection labelled = record labelled { connection = connection }

-- something else has become of the label
abbrev pub with_connection : List Labelled → ℕ → Option Connection → List Labelled
with_connection connections label connection = update_first (has_label label) (holding connection) connections

-- the word of a connection that is shut
abbrev pub last_word : State → Option (List ℕ)
last_word Running = None
last_word (Shut ending) = Some (ending_word ending)

-- the transcript's lines of one delivery: the bytes that went out, if any did, and the word of its end, if it ended
abbrev pub written_lines : ℕ → List ℕ → State → List ℕ
written_lines label bytes state = answer_lines label bytes (last_word state)

-- the result of a delivery: None if its label is at fault, else some lines; and the state after it
pub record Performed : Type 0 where
  pub lines : Option (List ℕ)
  pub state : ScriptState

-- the label was not opened, or is opened twice: nothing happens
abbrev pub at_fault : ScriptState → Performed
at_fault state = record { lines = None; state = state }

-- the connection was shut before: nothing happens, and nothing is written
abbrev pub passed_over : ScriptState → Performed
passed_over state = record { lines = Some []; state = state }

-- the label's new connection, if the server takes it in
abbrev pub taken_in : WebAnswers → Peer → Reply → Option Connection
taken_in web peer (Arrived id) = Some (Client (fresh web id peer))
taken_in web peer reply = None

-- a connection arrives under a new label, and is answered by what the settings say
abbrev pub opens_connection : WebAnswers → ScriptState → ℕ → Peer → Performed
opens_connection web state label peer =
    let reply = reply_to state.world (Arrive peer) in
    let written = said (asking web) reply in
    record {
      lines = Some (written_lines label written.bytes written.state);
      state =
          record {
            world = world_after state.world (Arrive peer);
            connections =
                placed by_label (record { label = label; connection = taken_in web peer reply }) state.connections;
          };
    }

-- what became of a label, unless its connection was shut
abbrev pub connection_unless : Option Connection → State → Option Connection
connection_unless connection Running = connection
connection_unless connection (Shut ending) = None

-- the connection, unless it was shut
abbrev pub kept_unless : Connection → State → Option Connection
kept_unless connection state = connection_unless (Some connection) state

-- the relay that feeds the mount of this name
abbrev pub relay_named : World → List ℕ → Option RelaySetting
relay_named w mount =
    if is_mount_name mount then find (λ relay. bytes_eq relay.local_mount mount) w.station.settings.relays else None

-- the relay connects to its master under a new label: its request goes out; with no such relay the label is at fault
-- rule: Relay goes down
abbrev pub connects : ScriptState → ℕ → Option RelaySetting → Performed
connects state label None = at_fault state
connects state label (Some relay) = record {
  lines = Some (written_lines label (request_text relay) Running);
  state =
      record state {
        connections =
            placed by_label (record { label = label; connection = Some (Relay (pulling_begun relay.local_mount)) }) state.connections;
      };
}

-- a connection's events are exchanged with the server
abbrev pub exchanges : ScriptState → ℕ → Conversation → List Event → Performed
exchanges state label conversation events =
    let x = exchanged state.world conversation.id conversation.says events in
    record {
      lines = Some (written_lines label x.exchange.bytes x.exchange.state);
      state =
          record {
            world = x.world;
            connections =
                with_connection state.connections label (kept_unless (Client (saying_now conversation x.exchange.says)) x.exchange.state);
          };
    }

-- the peer has closed the connection
abbrev pub closes : ScriptState → ℕ → Conversation → Performed
closes state label conversation =
    record {
      lines = Some (written_lines label [] (Shut Done));
      state = record { world = world_after state.world (Leave conversation.id); connections = with_connection state.connections label None };
    }

-- what arrives on a client's connection has this result (a relation, since the grammar of heads is one; there is one
-- answer)
abbrev pub ComesToClient : ScriptState → ℕ → Conversation → Input → Performed → Type 0
ComesToClient state label conversation (Data bytes) done =
    (heard : EventReading) × IsHeard conversation bytes heard × (exchanges state label heard.conversation heard.events ≡ done)
ComesToClient state label conversation (Room room) done = exchanges state label conversation (Draw conversation.id room ∷ []) ≡ done
ComesToClient state label conversation (Named text) done = exchanges state label conversation (Title conversation.id (cleaned max_title text) ∷ []) ≡ done
ComesToClient state label conversation End done = closes state label conversation ≡ done

-- nothing more is written on the connection to a master; the pull has this state, or is shut, and so does the
-- server
abbrev pub pulled_on : ScriptState → ℕ → Pulling → State → World → Performed
pulled_on state label pulling ends w = record {
  lines = Some (written_lines label [] ends);
  state = record { world = w; connections = with_connection state.connections label (kept_unless (Relay pulling) ends) };
}

-- an event is applied that the relay asks for, if it asks for one
abbrev pub AsksOn : ScriptState → ℕ → Pulling → Option Event → Performed → Type 0
AsksOn state label pulling event done =
    (after : NumberedState) × (w : World) × AsksIf Step pulling.number event state.world after w
    × (pulled_on state label (record pulling { number = after.number }) after.state w ≡ done)

-- what arrives on a relay's connection has this result
-- rule: Relay goes down
abbrev pub ComesToRelay : ScriptState → ℕ → Pulling → Input → Performed → Type 0
ComesToRelay state label pulling (Data bytes) done =
    (now : Pulling) × (ends : State) × (w : World) × Takes Step pulling bytes state.world now ends w × (pulled_on state label now ends w ≡ done)
ComesToRelay state label pulling (Room room) done = AsksOn state label pulling (option_map (λ id. Draw id room) pulling.number) done
ComesToRelay state label pulling (Named text) done = AsksOn state label pulling (option_map (λ id. Title id (cleaned max_title text)) pulling.number) done
ComesToRelay state label pulling End done =
    (w : World) × GoesDown Step pulling.number state.world w × (pulled_on state label pulling (Shut Done) w ≡ done)

-- what arrives on a connection has this result
abbrev pub ComesTo : ScriptState → ℕ → Connection → Input → Performed → Type 0
ComesTo state label (Client conversation) input done = ComesToClient state label conversation input done
ComesTo state label (Relay pulling) input done = ComesToRelay state label pulling input done

-- the moment is another
abbrev pub ticks : ScriptState → ℕ → Performed
ticks state ms = record { lines = Some []; state = record state { world = world_after state.world (Clock ms) } }

-- a delivery for a connection, by what became of it
abbrev pub on_connection : ScriptState → (Connection → Performed → Type 0) → Performed → Option (Option Connection) → Type 0
on_connection state OnConnection performed None = performed ≡ at_fault state
on_connection state OnConnection performed (Some None) = performed ≡ passed_over state
on_connection state OnConnection performed (Some (Some connection)) = OnConnection connection performed

-- a delivery for a label that must have been opened
abbrev pub for_label : ScriptState → ℕ → (Connection → Performed → Type 0) → Performed → Type 0
for_label state label OnConnection performed = on_connection state OnConnection performed (connection_of state.connections label)

-- a label is opened once
abbrev pub for_new_label : ScriptState → Performed → Option (Option Connection) → Performed
for_new_label state performed None = performed
for_new_label state performed (Some connection) = at_fault state

-- from this state the delivery has this result
-- rule: Line of a script; Labels
abbrev pub IsPerformed : WebAnswers → ScriptState → Delivery → Performed → Type 0
IsPerformed web state (Open label peer) performed =
    performed ≡ for_new_label state (opens_connection web state label peer) (connection_of state.connections label)
IsPerformed web state (Pull label mount) performed =
    performed ≡ for_new_label state (connects state label (relay_named state.world mount)) (connection_of state.connections label)
IsPerformed web state (To label input) performed = for_label state label (λ connection done. ComesTo state label connection input done) performed
IsPerformed web state (ClockIs ms) performed = performed ≡ ticks state ms
