use Rattle.std.proofs.Common.{◌≡◌, ◌+◌, length, drop}
use Rattle.std.specs.List.{concat}
use Rattle.radio_blocks.specs.Chunk.{all_blocks}
use Rattle.radio_blocks.proofs.QueueLemmas.{first_within}
use Rattle.radio_blocks.proofs.kept.KeptBlocks.start_within.Given as goal

-- the blocks that are left start here, and the start is one of theirs
abbrev pub invariant-loop-i : goal.invariant-loop-i
invariant-loop-i l =
    (l.start + length (concat (all_blocks (drop l.i l.self-inside.chunks.items))) ≡ l.end)
    × (first_within l.end l.burst l.start (all_blocks (drop l.i l.self-inside.chunks.items)) ≡ first_within l.end l.burst l.fn.start l.self)
