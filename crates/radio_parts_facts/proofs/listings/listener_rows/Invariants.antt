use Rattle.std.proofs.Common.{◌≡◌, ◌++◌, map, drop}
use Rattle.radio_seats.specs.Listed.{lent_guest}
use Rattle.radio_parts_facts.specs.Listings.{listener_row}
use Rattle.radio_parts_facts.proofs.listings.listener_rows.Given as goal

abbrev pub invariant-loop-listener : goal.invariant-loop-listener
invariant-loop-listener l =
    l.rows.items ++ map (listener_row l.now) (map lent_guest (drop l.listener-index l.listeners)) ≡ map (listener_row l.now) (map lent_guest l.listeners)
