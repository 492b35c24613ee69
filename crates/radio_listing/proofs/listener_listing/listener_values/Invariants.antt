use Rattle.std.proofs.Common.{◌≡◌, ◌++◌, drop}
use Rattle.std.specs.Prelude.{map}
use Rattle.serde_json.specs.View.{view}
use Rattle.radio_listing.specs.Listeners.{listener_data}
use Rattle.radio_listing.proofs.listener_listing.listener_values.Given as goal

abbrev pub invariant-loop-row : goal.invariant-loop-row
invariant-loop-row l =
    map view l.values.items ++ map (listener_data l.mount) (drop l.row-index l.rows) ≡ map (listener_data l.mount) l.rows
