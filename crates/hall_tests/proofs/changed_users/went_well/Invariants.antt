use Rattle.radio_parts_station.specs.World.{opening}
use Rattle.hall_tests.proofs.changed_users.went_well.Given as goal

-- the server that is opened here
abbrev pub ghosts-goes_well-H-Origin : goal.ghosts-goes_well-H-Origin
ghosts-goes_well-H-Origin g a = record { opening = opening a.settings a.lists }

abbrev pub ghosts-goes_well-H-Ledger : goal.ghosts-goes_well-H-Ledger
ghosts-goes_well-H-Ledger g a = record { name = a.blank.name; parts = a.blank.parts }
