use Rattle.std.proofs.Common.{◌∙◌, subst, sym}
use Rattle.radio_core.proofs.Words.{Represents, World}
use Rattle.radio_core.proofs.Kept.StepLemmas.{last_alike}
use Rattle.radio_core.proofs.server.Core.last_mount.Goals as goal

pub returns : goal.returns
returns c w stands =
    c.last_mount.ensures
    ∙ last_alike c.self.inside.control w (subst (λ (core : World). Represents core w) (sym c.self.view_is) stands) c.args.id
