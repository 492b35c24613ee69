use Rattle.std.proofs.Common.{◌≡◌, take}
use Rattle.radio_startup.specs.Columns.{line_behind}
use Rattle.radio_startup.proofs.misreading.line_behind.Given as goal

abbrev pub invariant-loop-byte : goal.invariant-loop-byte
invariant-loop-byte l = l.line ≡ line_behind (take l.byte-index l.before)
