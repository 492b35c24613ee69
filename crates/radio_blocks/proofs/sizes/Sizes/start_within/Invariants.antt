use Rattle.std.proofs.Common.{◌≡◌, ◌+◌, ◌-◌, ◌≤◌, nat_le, drop, find}
use Rattle.radio_blocks.specs.Chunk.{total, starts_of}
use Rattle.radio_blocks.proofs.sizes.Sizes.start_within.Given as goal

-- the blocks that are left start here, and the start is one of theirs
abbrev pub invariant-loop-i : goal.invariant-loop-i
invariant-loop-i l =
    (l.start + total (drop l.i l.sizes.items) ≤ l.end)
    × (find (λ place. nat_le (l.end - place) l.burst) (starts_of l.start (drop l.i l.sizes.items))
    ≡ find (λ place. nat_le (l.end - place) l.burst) (starts_of l.fn.start l.self))
