use Rattle.std.proofs.Common.{refl, sym, subst}
use Rattle.radio_core.proofs.Words.{planned, Represents, World}
use Rattle.radio_core.proofs.Kept.CanSteps.{stands_can}
use Rattle.radio_core.proofs.Kept.StepLemmas.{steps_done, still_stands}
use Rattle.radio_core.proofs.server.Core.step3.Goals as goal

pub returns-clause-step : goal.returns-clause-step
returns-clause-step c w stands =
    let control = c.self.inside.control in
    let can = stands_can control c.self.invariant c.args.event in
    steps_done control c.step3.new.self c.args.event (planned control c.args.event) refl c.step3.result (c.step3.ensures.ok can) (c.step3.ensures.told can) w
    (subst (λ (core : World). Represents core w) (sym c.self.view_is) stands)

pub invariant_of-self : goal.invariant_of-self
invariant_of-self c =
    let control = c.self.inside.control in
    let can = stands_can control c.self.invariant c.args.event in
    still_stands control c.step3.new.self c.args.event (planned control c.args.event) refl c.step3.result (c.step3.ensures.ok can) c.step3.ensures.err c.self.invariant
