use Rattle.std.proofs.Common.{◌≡◌}
use Rattle.radio_pullers.proofs.Words.{HasGoneOn}
use Rattle.radio_pullers.proofs.puller.Puller.turns.Given as goal

abbrev pub invariant-turns : goal.invariant-turns
invariant-turns g l = record {
  began : l.self.began_ms ≡ l.initial.self.began_ms;
  relay : l.self.relay.now ≡ l.initial.self.relay.now;
  turned : HasGoneOn g.S.SharedServer.steps l.initial.pull l.initial.self.asked.server.server l.pull l.self.asked.server.server;
}
