use Rattle.std.proofs.Common.{◌≡◌, take}
use Rattle.radio_startup.specs.Columns.{column_behind}
use Rattle.radio_startup.proofs.misreading.column_behind.Given as goal

abbrev pub invariant-loop-byte : goal.invariant-loop-byte
invariant-loop-byte l = l.column ≡ column_behind (take l.byte-index l.before)
