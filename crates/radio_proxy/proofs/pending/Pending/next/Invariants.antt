use Rattle.std.proofs.Common.{◌≡◌}
use Rattle.radio_proxy.proofs.pending.Pending.next.Given as goal

abbrev pub invariant-looks : goal.invariant-looks
invariant-looks g l = l.self.proxies ≡ l.fn.self.proxies
