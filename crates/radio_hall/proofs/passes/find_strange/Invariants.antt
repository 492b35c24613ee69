use Rattle.std.proofs.Common.{take}
use Rattle.radio_hall.proofs.Words.{AllStand}
use Rattle.radio_hall.proofs.passes.find_strange.Given as goal

abbrev pub invariant-loop-pass : goal.invariant-loop-pass
invariant-loop-pass g l = AllStand l.family.control.items l.family.mounts.items (take l.pass-index l.passes)
