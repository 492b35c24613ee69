-- Listeners can be seated wherever a walk can land, so that a move takes no memory.
use Rattle.std.specs.Prelude.{◌≡◌, ℕ, ◌<◌, true, List, length}
use Rattle.radio_settings_values.specs.declared.settings.Settings.{Settings}
use Rattle.radio_seats_rows.specs.SeatTable.{is_prepared}
use Rattle.radio_parts_table.specs.Listening.{Listening}
use Rattle.radio_parts_station.specs.Waiting.{is_on_demand}

-- as long as there are listeners, each mount is prepared that a relay feeds on demand
pub record OnDemandArePrepared (settings : Settings) (listening : Listening) : Type 0 where
  pub each : 0 < length listening.seats → (mount : List ℕ) → is_on_demand settings mount ≡ true → is_prepared listening.prepared mount ≡ true
