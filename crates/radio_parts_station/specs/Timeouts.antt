-- What has had its time.
use Rattle.std.specs.Prelude.{◌≡◌, ◌↔◌, ℕ, ◌-◌, ◌*◌, ◌<◌, ◌≤◌, Bool, true, false, if◌then◌else◌, List, Some}
use Rattle.radio_policy.specs.declared.rule.Rule.TheVariants.{HeaderTimeout}
use Rattle.radio_settings_values.specs.declared.settings.Settings.{Settings}
use Rattle.radio_settings_values.specs.Options.{options_for}
use Rattle.radio_seats_rows.specs.declared.seat.Seat.{Seat}
use Rattle.radio_parts_mount.specs.Sessions.{Session}
use Rattle.radio_parts_mount.specs.Timeouts.{lies_back, lags_behind, has_sat_out, is_silent}
use Rattle.radio_parts_station.specs.declared.clients.ClientState.{ClientState}
use Rattle.radio_parts_station.specs.declared.clients.ClientState.TheVariants.{Undecided, Ended}
use Rattle.radio_parts_station.specs.Clients.{Client, with_client_state}

-- a client of this state, who arrived then, has asked for nothing in so many seconds
abbrev pub asks_nothing : ℕ → ℕ → ℕ → ClientState → Bool
asks_nothing seconds now arrived Undecided = lies_back seconds arrived now
asks_nothing seconds now arrived state = false

-- rule: Header timeout
abbrev pub asks_too_late : ℕ → ℕ → Client → Bool
asks_too_late seconds now client = asks_nothing seconds now client.arrived client.state

-- such a client is finished; any other does what it did
abbrev pub timed_out : ℕ → ℕ → Client → Client
timed_out seconds now client = with_client_state (if asks_too_late seconds now client then Ended HeaderTimeout else client.state) client

-- these tests in numbers: more bytes behind than a queue has, and so many seconds or more
-- rule: The clock
pub record TestsAreInNumbers : Type 0 where
  pub lags : (mount : List ℕ) (end queue : ℕ) (seat : Seat)
      → (lags_behind mount end queue seat ≡ true) ↔ ((seat.mount ≡ mount) × (queue < end - seat.place))
  pub sits_out : (settings : Settings) (now : ℕ) (seat : Seat)
      → (has_sat_out settings now seat ≡ true) ↔ ((seconds : ℕ) × ((options_for settings seat.home).listeners.max_listener_duration ≡ Some seconds)
      × (1000 * seconds ≤ now - seat.since))
  pub asks_nothing : (seconds now : ℕ) (client : Client)
      → (asks_too_late seconds now client ≡ true) ↔ ((client.state ≡ Undecided) × (1000 * seconds ≤ now - client.arrived))
  pub sends_nothing : (seconds now : ℕ) (session : Session) → (is_silent seconds now session ≡ true) ↔ (1000 * seconds ≤ now - session.last_block)
