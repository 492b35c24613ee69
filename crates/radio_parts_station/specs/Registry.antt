-- What is kept of all mounts together: all of the station but its sessions.
use Rattle.std.specs.Prelude.{ℕ, List}
use Rattle.radio_settings_values.specs.declared.settings.Settings.{Settings}
use Rattle.radio_access.specs.Lists.{Lists}
use Rattle.radio_parts_mount.specs.Sessions.{Session}
use Rattle.radio_parts_station.specs.Clients.{Client}
use Rattle.radio_parts_station.specs.Fallbacks.{Fallback}
use Rattle.radio_parts_station.specs.Relays.{Relay}
use Rattle.radio_parts_station.specs.StationState.{StationState}
use Rattle.radio_parts_station.specs.declared.live.LiveMount.{LiveMount}

-- each field but `live` is the station's
pub record Registry : Type 0 where
  pub time : ℕ
  pub settings : Settings
  pub lists : Lists
  -- the mounts that are live, in the order of their names, each with the number of its session
  pub live : List LiveMount
  pub fallbacks : List Fallback
  pub clients : List Client
  pub relays : List Relay
  pub last_id : ℕ

-- with these sessions it is a station
abbrev pub station_state : Registry → List Session → StationState
station_state registry live = record {
  time = registry.time;
  settings = registry.settings;
  lists = registry.lists;
  live = live;
  fallbacks = registry.fallbacks;
  clients = registry.clients;
  relays = registry.relays;
  last_id = registry.last_id;
}
