use Rattle.std.proofs.Common.{◌≡◌, ◌≤◌, ℕ, false, List, refl, arith, lit≤}
use Rattle.serde_json.specs.Data.{depth}
use Rattle.serde_json.specs.Read.{max_depth}
use Rattle.serde_json.specs.Written.{has_float}
use Rattle.radio_listing.specs.declared.rows.ListedListener.{ListedListener}
use Rattle.radio_listing.specs.Listeners.{listener_data, listeners_data}
use Rattle.radio_listing.proofs.JsonLemmas.{no_floats, no_deeper}

pub listeners_quiet : (mount : List ℕ) (rows : List ListedListener) → has_float (listeners_data mount rows) ≡ false
listeners_quiet mount rows = rw (no_floats (listener_data mount) (λ row. refl) rows) refl

pub listeners_shallow : (mount : List ℕ) (rows : List ListedListener) → depth (listeners_data mount rows) ≤ max_depth
listeners_shallow mount rows = omega (arith, no_deeper (listener_data mount) 1 (λ row. lit≤ tt) rows)
