use Rattle.std.proofs.Common.{◌≡◌, ◌+◌, ◌≤◌, length}
use Rattle.radio_texts.specs.Cuts.{fields_at}
use Rattle.radio_addr.specs.Lists.{lines_after, list_of, after_ranges}
use Rattle.radio_addr.proofs.lists.AddressList.read.Given as goal

-- the ranges so far and those of the rest are those of the list
abbrev pub invariant-lines : goal.invariant-lines
invariant-lines l =
    (l.passed + length l.rest ≤ length l.bytes)
    × (after_ranges l.ranges.items (lines_after l.passed (fields_at 10 l.rest)) ≡ list_of l.bytes)

abbrev pub decreases-lines : goal.decreases-lines
decreases-lines l = length l.rest
