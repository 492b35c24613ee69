use Rattle.std.proofs.Common.{◌≡◌, ◌≤◌, false, List, refl, arith, lit≤}
use Rattle.serde_json.specs.Data.{depth}
use Rattle.serde_json.specs.Read.{max_depth}
use Rattle.serde_json.specs.Written.{has_float}
use Rattle.radio_listing.specs.declared.rows.MountRow.{MountRow}
use Rattle.radio_listing.specs.Public.{public_data, rows_shown, status_data}
use Rattle.radio_listing.proofs.JsonLemmas.{no_floats, no_deeper}

pub status_quiet : (rows : List MountRow) → has_float (status_data rows) ≡ false
status_quiet rows = rw (no_floats public_data (λ row. refl) (rows_shown rows)) refl

pub status_shallow : (rows : List MountRow) → depth (status_data rows) ≤ max_depth
status_shallow rows = omega (arith, no_deeper public_data 1 (λ row. lit≤ tt) (rows_shown rows))
