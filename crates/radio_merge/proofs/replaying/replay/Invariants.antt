use Rattle.std.proofs.Common.{◌≡◌, take, []}
use Rattle.radio_merge.proofs.Words.{World, IsSoFar}
use Rattle.radio_merge.proofs.replaying.replay.Given as goal

abbrev pub invariant-stamps : goal.invariant-stamps
invariant-stamps l =
    (l.replay.family.now ≡ l.family)
    × ((opening : World) → IsSoFar opening l.family.control.items l.family.mounts.items [] l.initial.replay.core l.initial.replay.history.items l.initial.replay.positions
    → IsSoFar opening l.family.control.items l.family.mounts.items (take l.stamp-index l.order) l.replay.core l.replay.history.items l.replay.positions)
