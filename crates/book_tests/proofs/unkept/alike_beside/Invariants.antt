use Rattle.radio_access.specs.Lists.{no_lists}
use Rattle.radio_parts_station.specs.World.{opening}
use Rattle.book_tests.proofs.unkept.alike_beside.Given as goal

-- the server that is opened here
abbrev pub ghosts-are_alike_by-H-Origin : goal.ghosts-are_alike_by-H-Origin
ghosts-are_alike_by-H-Origin g a = record { opening = opening a.settings no_lists }

abbrev pub ghosts-are_alike_by-H-Ledger : goal.ghosts-are_alike_by-H-Ledger
ghosts-are_alike_by-H-Ledger g a = record { name = a.blank.name; parts = a.blank.parts }
