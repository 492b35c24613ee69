use Rattle.std.proofs.Common.{◌≡◌, ◌-◌, ◌++◌, length, take, drop}
use Rattle.radio_blocks.specs.Chunk.{all_blocks}
use Rattle.radio_blocks.specs.Parts.{parts_of}
use Rattle.radio_blocks.proofs.pieces.push_all_parts.Given as goal

-- what was pushed and what is still to be pushed make what is asked for, behind what was there
abbrev pub invariant-index : goal.invariant-index
invariant-index l =
    (l.before ≡ length l.fn.slices.items)
    × (l.slices.items ++ parts_of l.skip l.left (all_blocks (drop l.index l.chunks.items))
    ≡ l.fn.slices.items ++ parts_of l.fn.skip l.fn.room (all_blocks (drop l.fn.index l.fn.chunks.items)))
    × (take (length l.fn.slices.items) l.slices.items ≡ l.fn.slices.items)

abbrev pub decreases-index : goal.decreases-index
decreases-index l = length l.chunks.items - l.index
