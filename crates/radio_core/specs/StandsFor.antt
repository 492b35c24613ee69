-- A core and the states that it represents.
use Rattle.std.specs.Prelude.{◌≡◌, ◌≤◌}
use Rattle.radio_tables.specs.Lists.{Each}
use Rattle.radio_parts_mount.specs.Kept.{kept_from}
use Rattle.radio_core.specs.Kept.{kept_of}
use Rattle.radio_core.specs.Lagging.{EachSeat}
use Rattle.radio_parts_mount.specs.Sessions.{HasRisingStarts}
use Rattle.radio_core.specs.Sound.{IsSound}
use Rattle.radio_parts_station.specs.World.{World}

-- no seat's place is forgotten
-- rule: Kept stream
abbrev pub SeatsAreKept : World → Type 0
SeatsAreKept w = EachSeat (λ stream place. kept_from w.station.settings.limits.queue_size stream ≤ place) w

-- the core has all of the state, but of each stream only what a queue keeps; and that is all from each listener's place on
-- rule: Kept stream
pub record StandsFor (core w : World) : Type 0 where
  pub shows : core ≡ kept_of w
  pub rise : Each HasRisingStarts w.station.live
  pub kept : SeatsAreKept w
  -- the state is as each of a run is
  pub sound : IsSound w
