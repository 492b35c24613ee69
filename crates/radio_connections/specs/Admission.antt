-- How a connection begins.
use Rattle.std.specs.Prelude.{◌≡◌, ℕ, List, [], ◌∷◌}
use Rattle.radio_addr.specs.declared.peer.Peer.{Peer}
use Rattle.radio_events.specs.declared.event.Event.TheVariants.{Arrive}
use Rattle.radio_events.specs.declared.reply.Reply.{Reply}
use Rattle.radio_events.specs.declared.reply.Reply.TheVariants.{Arrived}
use Rattle.radio_events.specs.declared.entry.Entry.{Entry}
use Rattle.radio_events.specs.Events.{entry}
use Rattle.radio_connections.specs.Connections.{Connection}
use Rattle.radio_connections.specs.Course.{Arrival}
use Rattle.radio_connections.specs.Serving.{Stands}

-- what was made for a connection when it came: the arrival of its client, or nothing if it was not let in
abbrev pub first_entries : Peer → Reply → List Entry
first_entries peer (Arrived id) = entry (Arrive peer) (Arrived id) ∷ []
first_entries peer reply = []

-- A connection that came so is in a sound state, if its line has given and taken nothing yet.
-- rule: Newcomers
abbrev pub IsTakenIn : Arrival → List ℕ → List ℕ → Connection → Type 0
IsTakenIn arrival given taken c = given ≡ [] → taken ≡ [] → Stands arrival c (first_entries arrival.peer arrival.reply)
