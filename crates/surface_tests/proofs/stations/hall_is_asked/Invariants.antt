use Rattle.radio_hall.specs.Words.{no_lists, opening}
use Rattle.surface_tests.proofs.stations.hall_is_asked.Given as goal

-- the server that is opened here
abbrev pub ghosts-is_asked_hall-H-Origin : goal.ghosts-is_asked_hall-H-Origin
ghosts-is_asked_hall-H-Origin g a = record { opening = opening a.settings no_lists }

abbrev pub ghosts-is_asked_hall-H-Ledger : goal.ghosts-is_asked_hall-H-Ledger
ghosts-is_asked_hall-H-Ledger g a = record { name = a.blank.name; parts = a.blank.parts }
