use Rattle.radio_hall.specs.Words.{no_lists, opening}
use Rattle.surface_tests.proofs.settling.row_is_settled.Given as goal

-- the server that is opened here
abbrev pub ghosts-is_settled-H-Origin : goal.ghosts-is_settled-H-Origin
ghosts-is_settled-H-Origin a = record { opening = opening a.settings no_lists }

abbrev pub ghosts-is_settled-H-Ledger : goal.ghosts-is_settled-H-Ledger
ghosts-is_settled-H-Ledger a = record { name = a.blank.name; parts = a.blank.parts }
