use Rattle.std.proofs.Common.{◌≡◌, ◌++◌, List, ℕ}
use Rattle.std.specs.Vec.Iter.{into_iter_items}
use Rattle.radio_session.specs.Exchanges.{Exchange, prefixed, Exchanges}
use Rattle.radio_session.proofs.exchanging.exchange.Given as goal

-- whatever the remaining events exchange from here, all events exchange from the start, after the bytes that were written so far
abbrev pub invariant-loop-event : goal.invariant-loop-event
invariant-loop-event g l = record {
  so_far : List ℕ;
  out : l.out.items ≡ l.initial.out.items ++ so_far;
  same : l.session ≡ record l.initial.session { says = l.session.says };
  all : (x : Exchange) (to : g.row.S.Denot) → Exchanges g.S.Server.steps l.initial.session.id l.session.says (into_iter_items l.event-iterator) l.server x to
      → Exchanges g.S.Server.steps l.initial.session.id l.initial.session.says l.fn.events.items l.initial.server (prefixed so_far x) to;
}
