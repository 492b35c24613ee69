-- What each change makes of a state in which streams are kept as far as a queue is long.
use Rattle.std.specs.Prelude.{ℕ, List}
use Rattle.radio_parts_station.specs.StationChanges.{kept_received}
use Rattle.radio_parts_changes.specs.declared.change.Change.{Change}
use Rattle.radio_parts_changes.specs.declared.change.Change.TheVariants.{Receive}
use Rattle.radio_parts_changes.specs.Changes.{changed, laggards_ended}
use Rattle.radio_parts_station.specs.World.{World}

-- the block has come, and the listeners who are too far behind then have lost their seats
abbrev pub kept_taken_in : World → List ℕ → List ℕ → World
kept_taken_in w mount block = laggards_ended (record w { station = kept_received w.station mount block }) mount

-- only if a block is received does a change forget anything
-- rule: Kept stream
abbrev pub kept_changed : World → Change → World
kept_changed w (Receive mount block) = kept_taken_in w mount block
kept_changed w change = changed w change
