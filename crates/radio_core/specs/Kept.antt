-- What is kept of a state: of each session's stream the last whole blocks, as far as a queue is long.
use Rattle.radio_parts_mount.specs.Kept.{kept_live}
use Rattle.radio_parts_station.specs.World.{World}

-- the state, with what is kept of each session's stream
-- rule: Kept stream
abbrev pub kept_of : World → World
kept_of w = record w { station = record w.station { live = kept_live w.station.settings.limits.queue_size w.station.live } }
