use Rattle.std.proofs.Common.{List}
use Rattle.radio_merge.proofs.Words.{Entry, Stamp, Merged}
use Rattle.radio_merge.proofs.positions.Positions.skip_all.Given as goal

abbrev pub invariant-mounts : goal.invariant-mounts
invariant-mounts l = (order : List Stamp) (history : List Entry)
    → Merged l.family.control.items l.family.mounts.items order history l.initial.self → Merged l.family.control.items l.family.mounts.items order history l.self
