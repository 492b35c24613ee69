use Rattle.std.proofs.Common.{subst}
use Rattle.radio_floor.proofs.Words.{World, Represents}
use Rattle.radio_floor.proofs.handler.tick.Goals as goal

pub returns : goal.returns
returns c w stands =
    let s = c.in_ok-step.ensures.step w stands in
    subst (λ (after : World). Represents c.step.new.self after) s.1.1 s.2
