use Rattle.radio_access.specs.Lists.{no_lists}
use Rattle.radio_parts_station.specs.World.{opening}
use Rattle.station_tests.proofs.station.goes.Given as goal

-- the server that is opened here
abbrev pub ghosts-is_told_as_it_came-H-Origin : goal.ghosts-is_told_as_it_came-H-Origin
ghosts-is_told_as_it_came-H-Origin g a = record { opening = opening a.settings no_lists }

abbrev pub ghosts-is_told_as_it_came-H-Ledger : goal.ghosts-is_told_as_it_came-H-Ledger
ghosts-is_told_as_it_came-H-Ledger g a = record { name = a.blank.name; parts = a.blank.parts }
