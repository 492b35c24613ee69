use Rattle.std.proofs.Common.{List, Vec, Global, All, subst}
use Rattle.radio_hall.proofs.Words.{Stamp, IsSubsequence}
use Rattle.radio_hall.proofs.Settled.{keeps_passes}
use Rattle.radio_hall.proofs.settling.merge_all.Goals as goal

pub returns-in-Ok-merged-clause-merge : goal.returns-in-Ok-merged-clause-merge
returns-in-Ok-merged-clause-merge g c =
    let m = c.in-Ok-merged.ensures.merge in
    let copies = c.in-Ok.stamps.items in
    let kept =
    subst (λ (xs : List (Vec Stamp Global)). All (λ places. IsSubsequence places.items m.0) xs) c.as_slice.ensures.value m.2 in
    record {
      order = m.0;
      merge = m.1;
      keeps = keeps_passes m.0 copies c.args.passes.now c.in-Ok.ensures kept;
    }
