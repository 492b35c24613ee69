use Rattle.std.proofs.Common.{◌≡◌, ◌++◌, drop}
use Rattle.radio_hall.proofs.Words.{own_places}
use Rattle.radio_hall.proofs.places.add_lists.Given as goal

abbrev pub invariant-loop-before : goal.invariant-loop-before
invariant-loop-before l = l.places.items ++ own_places l.before (drop l.before l.mounts) ≡ l.initial.places.items ++ own_places 0 l.mounts
