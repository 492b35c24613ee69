use Rattle.std.proofs.Common.{◌≡◌, ◌+◌, length}
use Rattle.std.specs.Vec.Iter.{into_iter_items}
use Rattle.radio_hall.proofs.family.lists_of.Given as goal

-- there is a list for each book that was taken, and the control's lines are as they were
abbrev pub invariant-loop-book : goal.invariant-loop-book
invariant-loop-book g l =
    (length l.lists.items + length (into_iter_items l.book-iterator) ≡ length l.fn.mounts.items) × (l.control.lines ≡ l.initial.control.lines)
