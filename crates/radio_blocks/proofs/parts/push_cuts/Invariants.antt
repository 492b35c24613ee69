use Rattle.std.proofs.Common.{◌≡◌, ◌+◌, ◌-◌, ◌++◌, length, take, drop}
use Rattle.radio_blocks.specs.Chunk.{total, cut_by}
use Rattle.radio_blocks.specs.Parts.{parts_of}
use Rattle.radio_blocks.proofs.parts.push_cuts.Given as goal

-- the sizes that are left fit the bytes that are left; what was pushed and what is still to be pushed make what is asked
-- for, behind what was there
abbrev pub invariant-index : goal.invariant-index
invariant-index l =
    (l.from + total (drop l.index l.sizes.items) ≡ length l.bytes)
    × (l.slices.items ++ parts_of l.skip l.left (cut_by (drop l.index l.sizes.items) (drop l.from l.bytes))
    ≡ l.fn.slices.items ++ parts_of l.fn.skip l.fn.room (cut_by l.fn.sizes.items l.fn.bytes))
    × (take (length l.fn.slices.items) l.slices.items ≡ l.fn.slices.items)

abbrev pub decreases-index : goal.decreases-index
decreases-index l = length l.sizes.items - l.index
