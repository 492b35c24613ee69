use Rattle.std.proofs.Common.{◌≡◌}
use Rattle.radio_pullers.proofs.Words.{HasPulled}
use Rattle.radio_pullers.proofs.puller.Puller.work.Given as goal

abbrev pub invariant-pulls : goal.invariant-pulls
invariant-pulls g l = record {
  relay : l.self.relay.now ≡ l.initial.self.relay.now;
  pulled : HasPulled g.S.SharedServer.steps g.S.SharedServer.refuses l.initial.self.relay.now.setting l.initial.self.asked.server.server l.self.asked.server.server;
}
