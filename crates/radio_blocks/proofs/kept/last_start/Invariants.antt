use Rattle.std.proofs.Common.{◌≡◌, ◌+◌, ◌<◌, ◌≤◌, length, drop, map}
use Rattle.std.specs.List.{concat}
use Rattle.radio_blocks.proofs.kept.last_start.Given as goal

-- what is still wanted lies before the chunk
abbrev pub invariant-index : goal.invariant-index
invariant-index l =
    (l.index ≤ length l.chunks.items) × (l.left + length (concat (drop l.index (map concat l.chunks.items))) ≡ l.fn.lag) × (0 < l.left)

abbrev pub decreases-index : goal.decreases-index
decreases-index l = l.index
