use Rattle.std.proofs.Common.{◌≡◌, List, ◌++◌, take, drop}
use Rattle.radio_connections.specs.Connections.{Connection}
use Rattle.radio_serving.specs.Turns.{ServesEach}
use Rattle.radio_serving.proofs.round.serve_each.Given as goal

-- those from the index on are as they were, and once they are served, behind those that were, each was served
abbrev pub invariant-loop-conn : goal.invariant-loop-conn
invariant-loop-conn g l = record {
  left : drop l.conn-index l.conn-items ≡ drop l.conn-index l.initial.conn-items;
  serves : (to : g.row.S.Denot) (rest : List Connection)
      → ServesEach g.S.Server.steps l.fn.now.ms l.fn.now.patience_ms l.fn.now.news l.server (drop l.conn-index l.initial.conn-items) to rest
      → ServesEach g.S.Server.steps l.fn.now.ms l.fn.now.patience_ms l.fn.now.news l.initial.server l.initial.conn-items to (take l.conn-index l.conn-items ++ rest);
}
