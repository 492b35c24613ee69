-- What the settings make of a listener's stream.
use Rattle.std.specs.Prelude.{ℕ, min, Bool, if◌then◌else◌, List, Option, Some, None}
use Rattle.radio_values.specs.declared.field.Shown.{Shown}
use Rattle.radio_settings_values.specs.Options.{options_for}
use Rattle.radio_events.specs.declared.reply.StreamHead.{StreamHead}
use Rattle.radio_parts_station.specs.StationState.{StationState}

-- what the head of a stream says that shows this
-- rule: Allow origin
abbrev pub head_of : StationState → Shown → StreamHead
head_of station shown = record { shown = shown; allow_origin = station.settings.web.allow_origin }

-- how many bytes a new listener of the mount may be sent at once
-- rule: Start of the burst
abbrev pub burst_of : StationState → List ℕ → ℕ
burst_of station mount = min (options_for station.settings mount).stream.burst_size station.settings.limits.queue_size

-- after how many bytes a listener of the mount is sent a metadata block, if it asked for metadata
abbrev pub interval_for : StationState → List ℕ → Bool → Option ℕ
interval_for station mount wants_metadata = (if wants_metadata then Some (options_for station.settings mount).stream.mp3_metadata_interval else None)
