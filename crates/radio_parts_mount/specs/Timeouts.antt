-- What has had its time at a mount.
use Rattle.std.specs.Prelude.{ℕ, ◌-◌, ◌*◌, Bool, false, ◌&&◌, nat_le, nat_lt, List}
use Rattle.std.specs.Option.{option_map_or}
use Rattle.std.specs.Str.{bytes_eq}
use Rattle.radio_settings_values.specs.declared.settings.Settings.{Settings}
use Rattle.radio_settings_values.specs.Options.{options_for}
use Rattle.radio_seats_rows.specs.declared.seat.Seat.{Seat}
use Rattle.radio_parts_mount.specs.Sessions.{Session}

-- the moment lies so many seconds back, or more
abbrev pub lies_back : ℕ → ℕ → ℕ → Bool
lies_back seconds moment now = nat_le (1000 * seconds) (now - moment)

-- the seat is at the mount, and further behind the end of its stream than a queue is long
-- rule: Lagged
abbrev pub lags_behind : List ℕ → ℕ → ℕ → Seat → Bool
lags_behind mount end queue seat = bytes_eq seat.mount mount && nat_lt queue (end - seat.place)

-- the listener has sat as long as the mount allows that it asked for
-- rule: Time over
abbrev pub has_sat_out : Settings → ℕ → Seat → Bool
has_sat_out settings now seat =
    option_map_or (λ seconds. lies_back seconds seat.since now) (options_for settings seat.home).listeners.max_listener_duration false

-- the source of the session has sent nothing in so many seconds
-- rule: Source silent
abbrev pub is_silent : ℕ → ℕ → Session → Bool
is_silent seconds now session = lies_back seconds session.last_block now
