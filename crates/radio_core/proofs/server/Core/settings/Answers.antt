use Rattle.std.proofs.Common.{subst, sym, ◌∙◌}
use Rattle.radio_core.proofs.Words.{Represents, World}
use Rattle.radio_core.proofs.Kept.StepLemmas.{keeps_settings}
use Rattle.radio_core.proofs.server.Core.settings.Goals as goal

pub returns : goal.returns
returns c w stands =
    c.settings.ensures ∙ keeps_settings c.self.inside.control w (subst (λ (core : World). Represents core w) (sym c.self.view_is) stands)
