use Rattle.radio_tries.proofs.Words.{Sorts}
use Rattle.radio_tries.proofs.wishes.sorted_by.Given as goal

abbrev pub invariant-orders : goal.invariant-orders
invariant-orders l = Sorts l.settings l.yielded l.sorted
