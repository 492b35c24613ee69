use Rattle.std.proofs.Common.{◌≡◌, All}
use Rattle.radio_sockets.specs.Entitled.{IsEntitled}
use Rattle.radio_sockets.proofs.acceptor.Acceptor.accept_all.Given as goal

-- the pass is of this intake, the proxies are the same, and only their connections name their clients
abbrev pub invariant-room : goal.invariant-room
invariant-room g l = record {
  own : l.pass.intake ≡ l.intake;
  proxies : l.self.pending.proxies ≡ l.fn.self.pending.proxies;
  entitled : All (IsEntitled l.fn.self.pending.proxies) l.fn.pass.put → All (IsEntitled l.fn.self.pending.proxies) l.pass.put;
}
