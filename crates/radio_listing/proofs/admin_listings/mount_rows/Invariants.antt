use Rattle.std.proofs.Common.{◌≡◌, ◌++◌, drop}
use Rattle.std.specs.Prelude.{map}
use Rattle.serde_json.specs.View.{view}
use Rattle.radio_listing.specs.Admin.{mount_row}
use Rattle.radio_listing.proofs.admin_listings.mount_rows.Given as goal

abbrev pub invariant-loop-row : goal.invariant-loop-row
invariant-loop-row l = map view l.values.items ++ map mount_row (drop l.row-index l.rows) ≡ map mount_row l.rows
