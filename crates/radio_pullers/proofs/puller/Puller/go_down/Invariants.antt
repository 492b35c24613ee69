use Rattle.std.proofs.Common.{◌≡◌}
use Rattle.radio_pullers.proofs.puller.Puller.go_down.Given as goal

abbrev pub invariant-asking : goal.invariant-asking
invariant-asking g l = (l.self.asked ≡ l.initial.self.asked) × (l.self.relay.now ≡ l.initial.self.relay.now)
