use Rattle.std.proofs.Common.{◌≡◌, ◌++◌, drop}
use Rattle.radio_hall.proofs.Words.{own_entry, places_of}
use Rattle.radio_hall.proofs.places.add_items.Given as goal

abbrev pub invariant-loop-before : goal.invariant-loop-before
invariant-loop-before l =
    l.places.items ++ places_of own_entry l.number l.before (drop l.before l.items) ≡ l.initial.places.items ++ places_of own_entry l.number 0 l.items
