-- The station: all of the server's state but its listeners.
use Rattle.std.specs.Prelude.{ℕ, List}
use Rattle.radio_settings_values.specs.declared.settings.Settings.{Settings}
use Rattle.radio_access.specs.Lists.{Lists}
use Rattle.radio_parts_mount.specs.Sessions.{Session}
use Rattle.radio_parts_station.specs.Clients.{Client}
use Rattle.radio_parts_station.specs.Fallbacks.{Fallback}
use Rattle.radio_parts_station.specs.Relays.{Relay}

pub record StationState : Type 0 where
  -- the moment, in milliseconds
  pub time : ℕ
  pub settings : Settings
  -- what the files that the settings name hold
  pub lists : Lists
  -- the live mounts' sessions, in the order of the mounts' names
  pub live : List Session
  -- the fallbacks that commands have set, in the order of their mounts' names
  pub fallbacks : List Fallback
  -- the clients, in the order of their numbers
  pub clients : List Client
  -- the relays, in the order of their numbers
  pub relays : List Relay
  -- the number that was given last, to a client or a relay
  pub last_id : ℕ
