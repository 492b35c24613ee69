use Rattle.std.proofs.Common.{◌∙◌}
use Rattle.radio_pullers.proofs.puller.Puller.pull_on.Goals as goal

pub returns : goal.returns
returns g c = record {
  pull = record {
    first = c.args.pull;
    last = c.turns-why.new.pull;
    mid = c.turns-why.new.self.asked.server.server;
    begins = c.requires;
    turns = c.turns-why.ensures.turns;
    ends = c.go_down.ensures.down;
  };
  relay = c.go_down.ensures.relay ∙ c.turns-why.ensures.relay;
}
