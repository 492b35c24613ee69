use Rattle.std.proofs.Common.{◌≡◌, List, ◌++◌}
use Rattle.std.specs.Vec.Iter.{into_iter_items}
use Rattle.radio_events.specs.declared.entry.Entry.{Entry}
use Rattle.radio_connections.specs.declared.conn.Fate.TheVariants.{Open}
use Rattle.radio_connections.specs.Course.{Arrival}
use Rattle.radio_connections.specs.Duties.{IsLater, events_of}
use Rattle.radio_connections.specs.Answering.{IsUnwritten}
use Rattle.radio_events.specs.Servers.{Chain}
use Rattle.radio_connections.specs.Serving.{StandsBefore}
use Rattle.radio_connections.proofs.serving.answering.answer_all.Given as goal

-- of the events, those that are left are still to be applied
abbrev pub invariant-loop-event : goal.invariant-loop-event
invariant-loop-event g l = record {
  entries : List Entry;
  chain : Chain g.S.Server.steps l.initial.server entries l.server;
  same : l.conn.id ≡ l.initial.conn.id;
  goes : l.conn.status.fate ≡ Open;
  later : IsLater l.initial.conn l.conn;
  calls : l.conn.calls ≡ l.initial.conn.calls;
  given : l.conn.given ≡ l.initial.conn.given;
  unwritten : IsUnwritten l.initial.conn l.conn;
  asked : l.conn.status.asked_ms ≡ l.initial.conn.status.asked_ms;
  made : l.fn.events.items ≡ events_of entries ++ into_iter_items l.event-iterator;
  stands : (arrival : Arrival) (past : List Entry) → StandsBefore arrival l.fn.events.items l.initial.conn past
      → StandsBefore arrival (into_iter_items l.event-iterator) l.conn (past ++ entries);
}
