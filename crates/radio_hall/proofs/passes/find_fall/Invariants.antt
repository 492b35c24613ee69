use Rattle.std.proofs.Common.{take}
use Rattle.radio_hall.proofs.Words.{AllRise}
use Rattle.radio_hall.proofs.passes.find_fall.Given as goal

abbrev pub invariant-loop-pass : goal.invariant-loop-pass
invariant-loop-pass g l = AllRise l.lists (take l.pass-index l.passes)
