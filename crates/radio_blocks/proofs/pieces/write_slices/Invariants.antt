use Rattle.std.proofs.Common.{◌≡◌, ◌++◌, length, take}
use Rattle.std.specs.List.{concat}
use Rattle.radio_blocks.proofs.pieces.write_slices.Given as goal

-- the slices so far stand behind what stood there
abbrev pub invariant-loop-slice : goal.invariant-loop-slice
invariant-loop-slice l =
    (l.before ≡ length l.initial.out.items)
    × (l.out.items ≡ l.initial.out.items ++ concat (take l.slice-index l.slices))
