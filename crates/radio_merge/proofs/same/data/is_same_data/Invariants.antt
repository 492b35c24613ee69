use Rattle.std.proofs.Common.{◌≡◌, ◌↔◌, ◌++◌, length}
use Rattle.std.specs.List.{concat}
use Rattle.radio_merge.proofs.same.data.is_same_data.Given as goal

abbrev pub invariant-bytes : goal.invariant-bytes
invariant-bytes l = (concat l.a ≡ concat l.b) ↔ (l.first ++ concat l.firsts ≡ l.second ++ concat l.seconds)

abbrev pub decreases-bytes : goal.decreases-bytes
decreases-bytes l = length (l.first ++ concat l.firsts)
