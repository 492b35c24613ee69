use Rattle.std.proofs.Common.{◌≡◌, ◌++◌, map, take}
use Rattle.radio_startup.specs.Warnings.{unknown_key}
use Rattle.radio_startup.proofs.warnings.add_unknown.Given as goal

abbrev pub invariant-loop-key : goal.invariant-loop-key
invariant-loop-key l = l.to.items ≡ l.fn.to.items ++ map unknown_key (take l.key-index l.unknown)
