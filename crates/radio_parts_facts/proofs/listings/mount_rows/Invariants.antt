use Rattle.std.proofs.Common.{◌≡◌, ◌++◌, map}
use Rattle.radio_parts_station.specs.World.{world}
use Rattle.radio_parts_table.specs.Parts.{live_in}
use Rattle.radio_parts_facts.specs.Listings.{row_of_session, mount_rows}
use Rattle.radio_parts_facts.proofs.listings.mount_rows.Given as goal

abbrev pub invariant-loop-part : goal.invariant-loop-part
invariant-loop-part l =
    l.rows.items ++ map (row_of_session (world l.station l.seats.seats)) (live_in l.part-iterator) ≡ mount_rows (world l.station l.seats.seats)
