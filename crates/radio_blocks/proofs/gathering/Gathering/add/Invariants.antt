use Rattle.std.proofs.Common.{◌≡◌, ◌++◌, length}
use Rattle.radio_blocks.proofs.gathering.Gathering.add.Given as goal

-- what was added and what is still to be added make what is asked for
abbrev pub invariant-rest : goal.invariant-rest
invariant-rest l = l.self ++ l.rest ≡ l.initial.self ++ l.bytes

abbrev pub decreases-rest : goal.decreases-rest
decreases-rest l = length l.rest
