use Rattle.std.proofs.Common.{◌<◌, arith}
use Rattle.std.specs.Vec.{vec_len}
use Rattle.std.proofs.lemmas.Bool.Decides.{nat_tests}
use Rattle.radio_icy.proofs.ItemsLemmas.{AreRuns-push_sound}
use Rattle.radio_icy.proofs.items.Items.into_items.Goals as goal

pub returns-clause-runs : goal.returns-clause-runs
returns-clause-runs c =
    let some : 0 < vec_len c.self.inside.run = grind (arith, nat_tests, c.if-is_empty.false, c.is_empty.ensures) in
    rw c.in_ok-push.ensures.items (AreRuns-push_sound c.self.inside.items.items c.self.inside.run c.self.invariant.0 c.self.invariant.1 some)
