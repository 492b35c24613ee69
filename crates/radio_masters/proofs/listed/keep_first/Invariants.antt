use Rattle.std.proofs.Common.{◌≡◌, length, take}
use Rattle.radio_masters.proofs.Words.{most_listed}
use Rattle.radio_masters.proofs.listed.keep_first.Given as goal

abbrev pub invariant-others : goal.invariant-others
invariant-others l = take most_listed l.names.keys ≡ take most_listed l.initial.names.keys

abbrev pub decreases-others : goal.decreases-others
decreases-others l = length l.names.keys
