use Rattle.radio_hall.specs.Words.{no_lists, opening}
use Rattle.surface_tests.proofs.settling.hall_is_empty.Given as goal

-- the server that is opened here
abbrev pub ghosts-is_empty_hall-H-Origin : goal.ghosts-is_empty_hall-H-Origin
ghosts-is_empty_hall-H-Origin a = record { opening = opening a.settings no_lists }

abbrev pub ghosts-is_empty_hall-H-Ledger : goal.ghosts-is_empty_hall-H-Ledger
ghosts-is_empty_hall-H-Ledger a = record { name = a.blank.name; parts = a.blank.parts }
