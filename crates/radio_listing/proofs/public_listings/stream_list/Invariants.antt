use Rattle.std.proofs.Common.{◌≡◌, ◌++◌, drop}
use Rattle.std.specs.List.{flat_map}
use Rattle.radio_listing.specs.Public.{rows_shown, stream_line}
use Rattle.radio_listing.proofs.public_listings.stream_list.Given as goal

abbrev pub invariant-loop-row : goal.invariant-loop-row
invariant-loop-row l =
    l.bytes.items ++ flat_map stream_line (rows_shown (drop l.row-index l.rows)) ≡ flat_map stream_line (rows_shown l.rows)
