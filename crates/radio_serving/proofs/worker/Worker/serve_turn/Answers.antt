use Rattle.std.proofs.Common.{refl, rules, sym, subst}
use Rattle.std.proofs.lemmas.Fn.{filter_same}
use Rattle.radio_serving.specs.Workers.{WorkerOf}
use Rattle.radio_serving.specs.Turns.{Ticks}
use Rattle.radio_serving.proofs.worker.Worker.serve_turn.Goals as goal

pub returns : goal.returns
returns g c = record {
  mid = record { server = c.self.inside.server; web = c.self.inside.web; clock_ms = c.self.inside.clock_ms; patience_ms = c.self.inside.patience_ms };
  served = c.serve_each.new.conns.items;
  ticks = subst (λ (w : WorkerOf _). Ticks g.S.Server.steps g.S.Server.refuses c.args.turn.ms c.args.turn.clock_ms c.args.self.now w) (sym c.self.view_is) c.tick.ensures;
  same = (refl, refl, refl);
  serves = c.serve_each.ensures;
  closes = filter_same _ _ _ (λ x b f' k. search rules) _ _ c.retain.ensures.filtered;
}
