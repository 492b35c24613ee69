use Rattle.std.proofs.Common.{◌≡◌, ◌++◌, drop}
use Rattle.std.specs.Prelude.{map}
use Rattle.serde_json.specs.View.{view}
use Rattle.radio_listing.specs.Admin.{stats_row}
use Rattle.radio_listing.proofs.admin_listings.stats_rows.Given as goal

abbrev pub invariant-loop-row : goal.invariant-loop-row
invariant-loop-row l = map view l.values.items ++ map stats_row (drop l.row-index l.rows) ≡ map stats_row l.rows
