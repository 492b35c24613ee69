use Rattle.std.proofs.Common.{◌≡◌, ◌++◌, length}
use Rattle.radio_icy.specs.Unweaving.{at_sound, atoms_of_piece, after_feeding}
use Rattle.radio_icy.proofs.unweaver.read_intervals.Given as goal

-- the items so far, and those of the remaining bytes, are the items of all bytes
abbrev pub invariant-intervals : goal.invariant-intervals
invariant-intervals l =
    (l.items ++ atoms_of_piece (at_sound l.interval l.left) l.rest ≡ l.initial.items ++ atoms_of_piece (at_sound l.interval l.fn.left) l.bytes)
    × (after_feeding (at_sound l.interval l.left) l.rest ≡ after_feeding (at_sound l.interval l.fn.left) l.bytes)

abbrev pub decreases-intervals : goal.decreases-intervals
decreases-intervals l = length l.rest
