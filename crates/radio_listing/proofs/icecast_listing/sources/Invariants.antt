use Rattle.std.proofs.Common.{◌≡◌, ◌++◌, drop}
use Rattle.std.specs.Prelude.{map}
use Rattle.serde_json.specs.View.{view}
use Rattle.radio_listing.specs.Icecast.{source_data}
use Rattle.radio_listing.specs.Public.{rows_shown}
use Rattle.radio_listing.proofs.icecast_listing.sources.Given as goal

abbrev pub invariant-loop-row : goal.invariant-loop-row
invariant-loop-row l =
    map view l.values.items ++ map (source_data l.base) (rows_shown (drop l.row-index l.rows))
    ≡ map (source_data l.base) (rows_shown l.rows)
