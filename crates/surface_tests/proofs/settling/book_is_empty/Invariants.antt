use Rattle.radio_hall.specs.Words.{no_lists, opening}
use Rattle.surface_tests.proofs.settling.book_is_empty.Given as goal

-- the server that is opened here
abbrev pub ghosts-is_empty_book-H-Origin : goal.ghosts-is_empty_book-H-Origin
ghosts-is_empty_book-H-Origin a = record { opening = opening a.settings no_lists }

abbrev pub ghosts-is_empty_book-H-Ledger : goal.ghosts-is_empty_book-H-Ledger
ghosts-is_empty_book-H-Ledger a = record { name = a.blank.name; parts = a.blank.parts }
