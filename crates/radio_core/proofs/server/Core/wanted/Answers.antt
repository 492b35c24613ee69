use Rattle.std.proofs.Common.{◌≡◌, ℕ, List, IfOk, subst, sym}
use Rattle.radio_core.proofs.Words.{Represents, World}
use Rattle.radio_core.proofs.Kept.StepLemmas.{wants_alike}
use Rattle.radio_core.proofs.server.Core.wanted.Goals as goal

pub returns : goal.returns
returns c w stands =
    subst (λ (names : List (List ℕ)). IfOk c.wanted.result (λ mounts. mounts.items ≡ names))
    (wants_alike c.self.inside.control w (subst (λ (core : World). Represents core w) (sym c.self.view_is) stands)) c.wanted.ensures
