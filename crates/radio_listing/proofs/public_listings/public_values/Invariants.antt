use Rattle.std.proofs.Common.{◌≡◌, ◌++◌, drop}
use Rattle.std.specs.Prelude.{map}
use Rattle.serde_json.specs.View.{view}
use Rattle.radio_listing.specs.Public.{public_data, rows_shown}
use Rattle.radio_listing.proofs.public_listings.public_values.Given as goal

abbrev pub invariant-loop-row : goal.invariant-loop-row
invariant-loop-row l =
    map view l.values.items ++ map public_data (rows_shown (drop l.row-index l.rows)) ≡ map public_data (rows_shown l.rows)
