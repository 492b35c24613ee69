use Rattle.radio_parts_station.specs.World.{opening}
use Rattle.radiod.proofs.serving.serve_station.Given as goal

-- the server that is opened here
abbrev pub ghosts-serve_in-H-Origin : goal.ghosts-serve_in-H-Origin
ghosts-serve_in-H-Origin g a = record { opening = opening a.station.settings a.station.lists }

abbrev pub ghosts-serve_in-H-Ledger : goal.ghosts-serve_in-H-Ledger
ghosts-serve_in-H-Ledger g a = record { name = a.blank.name; parts = a.blank.parts }
