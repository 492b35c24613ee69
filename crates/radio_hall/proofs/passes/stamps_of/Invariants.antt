use Rattle.std.proofs.Common.{◌≡◌, map, take}
use Rattle.radio_hall.proofs.Words.{stamps}
use Rattle.radio_hall.proofs.passes.stamps_of.Given as goal

abbrev pub invariant-loop-pass : goal.invariant-loop-pass
invariant-loop-pass g l = map (λ places. places.items) l.all.items ≡ map stamps (take l.pass-index l.passes)
