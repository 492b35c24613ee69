use Rattle.std.proofs.Common.{◌∙◌}
use Rattle.radio_pullers.proofs.ThreadLemmas.{gone_then, turned_then}
use Rattle.radio_pullers.proofs.puller.Puller.turns.Goals as goal

pub returns-in-Some-turn-clause-turns : goal.returns-in-Some-turn-clause-turns
returns-in-Some-turn-clause-turns g c =
    turned_then g.S.SharedServer.steps c.turns.self.began_ms c.turn.result c.args.pull.now c.turns.pull c.turn.new.pull c.args.self.now.asked.server.server
    c.turns.self.asked c.turn.new.self.asked c.turns.invariant.turned c.turn.ensures.turn

pub turns-preserved : goal.turns-preserved
turns-preserved g c = record {
  began = c.turn.ensures.began ∙ c.turns.invariant.began;
  relay = c.turn.ensures.relay ∙ c.turns.invariant.relay;
  turned =
      gone_then g.S.SharedServer.steps c.turns.self.began_ms c.turn.result c.args.pull.now c.turns.pull c.turn.new.pull
      c.args.self.now.asked.server.server c.turns.self.asked c.turn.new.self.asked c.turns.invariant.turned c.turn.ensures.turn c.in_default.is;
}
