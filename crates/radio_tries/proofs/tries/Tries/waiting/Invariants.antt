use Rattle.std.proofs.Common.{◌≡◌, map, take}
use Rattle.radio_tries.proofs.Words.{arc_value, queue}
use Rattle.radio_tries.proofs.tries.Tries.waiting.Given as goal

abbrev pub invariant-relays : goal.invariant-relays
invariant-relays l = l.waiting.items ≡ queue l.self (map arc_value (take l.number l.wished))
