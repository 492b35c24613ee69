-- Mounts that wait for a session: relays feed them on demand, and listeners may sit there before anything is to be heard.
use Rattle.std.specs.Prelude.{ℕ, Bool, false, if◌then◌else◌, List, [], Option, Some, None, codes, find}
use Rattle.std.specs.Option.{option_map_or, option_or}
use Rattle.std.specs.Str.{bytes_eq}
use Rattle.radio_settings_values.specs.declared.settings.RelaySetting.{RelaySetting}
use Rattle.radio_settings_values.specs.declared.settings.Settings.{Settings}
use Rattle.radio_values.specs.declared.field.Shown.{Shown}
use Rattle.radio_values.specs.Shown.{shown_of}
use Rattle.radio_parts_station.specs.StationState.{StationState}
use Rattle.radio_parts_station.specs.Streams.{shown_for}
use Rattle.radio_parts_mount.specs.Sessions.{Session, session_of, opened}

-- of these relays one feeds the mount, and does so on demand
abbrev pub feeds_on_demand : List RelaySetting → List ℕ → Bool
feeds_on_demand relays mount = option_map_or (λ relay. relay.on_demand) (find (λ relay. bytes_eq relay.local_mount mount) relays) false

-- a relay of the settings feeds the mount on demand
-- rule: Waiting mount
abbrev pub is_on_demand : Settings → List ℕ → Bool
is_on_demand settings mount = feeds_on_demand settings.relays mount

-- what nobody shows who feeds it
abbrev pub shown_by_nobody : Shown
shown_by_nobody = shown_of (codes "audio/mpeg") [] []

-- what is heard at a mount that waits: nothing, as of a session of number 0, which nobody has; it shows what the settings give it
-- rule: Waiting mount
abbrev pub silence_at : StationState → List ℕ → Session
silence_at station mount = opened mount 0 (shown_for station mount shown_by_nobody) 0

abbrev pub silence_of : StationState → List ℕ → Option Session
silence_of station mount = (if is_on_demand station.settings mount then Some (silence_at station mount) else None)

-- what listeners hear at the mount: its session, and where it has none, but waits for one, nothing yet
-- rule: Waiting mount
abbrev pub heard_at : StationState → List ℕ → Option Session
heard_at station mount = option_or (session_of station.live mount) (silence_of station mount)
