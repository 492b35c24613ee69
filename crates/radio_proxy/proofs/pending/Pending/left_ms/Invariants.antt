use Rattle.std.proofs.Common.{◌≤◌}
use Rattle.radio_proxy.proofs.pending.Pending.left_ms.Given as goal

abbrev pub invariant-loop-each : goal.invariant-loop-each
invariant-loop-each g l = l.least ≤ l.most_ms
