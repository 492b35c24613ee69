use Rattle.std.proofs.Common.{◌≡◌, ◌++◌, take}
use Rattle.radio_script.proofs.Words.{flat_map, escape_of}
use Rattle.radio_script.proofs.escapes.push_escaped.Given as goal

abbrev pub invariant-loop-b : goal.invariant-loop-b
invariant-loop-b l = l.text.items ≡ l.fn.text.items ++ flat_map escape_of (take l.b-index l.bytes)
