-- Whose events are, which take no memory, and an event with its reply.
use Rattle.std.specs.Prelude.{ℕ, Option, Some, None}
use Rattle.radio_events.specs.declared.event.Event.{Event}
use Rattle.radio_events.specs.declared.event.Event.TheVariants.{Arrive, Source, Push, SourceEnd, Title, Listen, Draw, Command, Leave}
use Rattle.radio_events.specs.declared.event.Event.TheVariants.{RelayUp, RelayDown, Clock}
use Rattle.radio_events.specs.declared.entry.Entry.{Entry}
use Rattle.radio_events.specs.declared.reply.Reply.{Reply}

-- the client or relay of an event; one that comes, and the clock, have none
abbrev pub client_in : Event → Option ℕ
client_in (Arrive peer) = None
client_in (Source asked) = Some asked.id
client_in (Push id block) = Some id
client_in (SourceEnd id) = Some id
client_in (Title id text) = Some id
client_in (Listen asked) = Some asked.id
client_in (Draw id room) = Some id
client_in (Command asked) = Some asked.id
client_in (Leave id) = Some id
client_in (RelayUp mount shown) = None
client_in (RelayDown id) = Some id
client_in (Clock ms) = None

-- the end of a session, of a connection and of a relay, and the clock, are never refused for want of memory
-- rule: Leaving; Refused memory; Relay goes down
abbrev pub EventTakesNoMemory : Event → Type 0
EventTakesNoMemory (SourceEnd id) = Unit {0}
EventTakesNoMemory (Leave id) = Unit {0}
EventTakesNoMemory (RelayDown id) = Unit {0}
EventTakesNoMemory (Clock ms) = Unit {0}
EventTakesNoMemory _ = ⊥

-- this event, with this reply
abbrev pub entry : Event → Reply → Entry
entry event reply = record { event = event; reply = reply }
