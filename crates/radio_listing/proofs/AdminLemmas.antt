use Rattle.std.proofs.Common.{◌≡◌, ◌≤◌, ℕ, false, List, refl, arith, lit≤}
use Rattle.serde_json.specs.Data.{depth}
use Rattle.serde_json.specs.Read.{max_depth}
use Rattle.serde_json.specs.Written.{has_float}
use Rattle.radio_listing.specs.declared.rows.MountRow.{MountRow}
use Rattle.radio_listing.specs.Admin.{mount_row, mounts_data, stats_data, stats_row}
use Rattle.radio_listing.proofs.JsonLemmas.{no_floats, no_deeper}

pub stats_quiet : (clients : ℕ) (rows : List MountRow) → has_float (stats_data clients rows) ≡ false
stats_quiet clients rows = rw (no_floats stats_row (λ row. refl) rows) refl

pub stats_shallow : (clients : ℕ) (rows : List MountRow) → depth (stats_data clients rows) ≤ max_depth
stats_shallow clients rows = omega (arith, no_deeper stats_row 1 (λ row. lit≤ tt) rows)

pub mounts_quiet : (rows : List MountRow) → has_float (mounts_data rows) ≡ false
mounts_quiet rows = rw (no_floats mount_row (λ row. refl) rows) refl

pub mounts_shallow : (rows : List MountRow) → depth (mounts_data rows) ≤ max_depth
mounts_shallow rows = omega (arith, no_deeper mount_row 1 (λ row. lit≤ tt) rows)
