use Rattle.std.proofs.Common.{◌≡◌, length}
use Rattle.radio_parts_table.proofs.Words.{map, Lagged, ended_if_lost, is_among}
use Rattle.radio_parts_table.proofs.listeners.end_each.Given as goal

-- once the rest have lost their seats too, all have
abbrev pub invariant-lagging : goal.invariant-lagging
invariant-lagging l =
    (l.seats.prepared ≡ l.initial.seats.prepared)
    × (map (ended_if_lost (is_among l.lagging) Lagged) l.seats.seats ≡ map (ended_if_lost (is_among l.initial.lagging) Lagged) l.initial.seats.seats)

abbrev pub decreases-lagging : goal.decreases-lagging
decreases-lagging l = length l.lagging
