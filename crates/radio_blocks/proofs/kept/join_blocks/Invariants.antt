use Rattle.std.proofs.Common.{◌≡◌, ◌+◌, ◌++◌, length, drop}
use Rattle.radio_blocks.specs.Chunk.{total, cut_by, all_blocks}
use Rattle.radio_blocks.proofs.kept.join_blocks.Given as goal

-- the blocks so far and those that are left are all from there on
abbrev pub invariant-loop-i : goal.invariant-loop-i
invariant-loop-i l =
    (total l.sizes.items ≡ length l.bytes.items)
    × (l.from + length l.sizes.items ≡ l.i)
    × (cut_by l.sizes.items l.bytes.items ++ all_blocks (drop l.i l.chunks.items) ≡ all_blocks (drop l.from l.chunks.items))
