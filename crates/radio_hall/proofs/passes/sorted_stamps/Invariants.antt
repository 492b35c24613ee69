use Rattle.std.proofs.Common.{◌≡◌, take}
use Rattle.radio_hall.proofs.Words.{all_stamps}
use Rattle.radio_hall.proofs.passes.sorted_stamps.Given as goal

abbrev pub invariant-loop-pass : goal.invariant-loop-pass
invariant-loop-pass g l = l.sorted.items ≡ all_stamps (take l.pass-index l.passes)
