use Rattle.std.proofs.Common.{◌≡◌, ◌++◌, drop}
use Rattle.radio_hall.proofs.Words.{line_entry, places_of}
use Rattle.radio_hall.proofs.places.add_lines.Given as goal

abbrev pub invariant-loop-before : goal.invariant-loop-before
invariant-loop-before l = l.places.items ++ places_of line_entry 0 l.before (drop l.before l.lines) ≡ l.initial.places.items ++ places_of line_entry 0 0 l.lines
