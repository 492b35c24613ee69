use Rattle.std.proofs.Common.{refl, sym, subst}
use Rattle.radio_core.proofs.Words.{planned, Represents, World}
use Rattle.radio_core.proofs.Kept.CanSteps.{stands_can}
use Rattle.radio_core.proofs.Kept.StepLemmas.{step_done, still_stands}
use Rattle.radio_core.proofs.server.Core.step.Goals as goal

pub returns-clause-step : goal.returns-clause-step
returns-clause-step c w stands =
    let control = c.self.inside.control in
    let can = stands_can control c.self.invariant c.args.event in
    step_done control c.step.new.self c.args.event (planned control c.args.event) refl c.step.result (c.step.ensures.ok can) (c.step.ensures.told can) w
    (subst (λ (core : World). Represents core w) (sym c.self.view_is) stands)

pub invariant_of-self : goal.invariant_of-self
invariant_of-self c =
    let control = c.self.inside.control in
    let can = stands_can control c.self.invariant c.args.event in
    still_stands control c.step.new.self c.args.event (planned control c.args.event) refl c.step.result (c.step.ensures.ok can) c.step.ensures.err c.self.invariant
