use Rattle.std.proofs.Common.{◌≡◌, take}
use Rattle.radio_hall.proofs.settling.are_same.Given as goal

abbrev pub invariant-loop-i : goal.invariant-loop-i
invariant-loop-i l = take l.i l.some ≡ take l.i l.others
