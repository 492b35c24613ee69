use Rattle.std.proofs.Common.{drop}
use Rattle.radio_workers.specs.Leaving.{LeavesAll}
use Rattle.radio_workers.proofs.leaving.leave_all.Given as goal

-- once those from the index on have left, all have
abbrev pub invariant-loop-conn : goal.invariant-loop-conn
invariant-loop-conn g l = (to : g.row.S.Denot)
    → LeavesAll g.S.Server.steps g.S.Server.refuses l.server (drop l.conn-index l.conns) to
    → LeavesAll g.S.Server.steps g.S.Server.refuses l.initial.server l.conns to
