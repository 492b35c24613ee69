-- From which moment on the time of something at a mount is over, so that before it no clock ends it.
use Rattle.std.specs.Prelude.{ℕ, ◌+◌, ◌-◌, ◌*◌, ◌^◌, ◌==◌, min, if◌then◌else◌, List, fold}
use Rattle.std.specs.Option.{option_map_or}
use Rattle.radio_settings_values.specs.declared.settings.Settings.{Settings}
use Rattle.radio_settings_values.specs.Options.{options_for}
use Rattle.radio_seats_rows.specs.declared.seat.Guest.{Guest}
use Rattle.radio_seats_rows.specs.declared.seat.Seat.{Seat}
use Rattle.radio_seats_rows.specs.declared.seat.Listener.{Listener}
use Rattle.radio_seats_rows.specs.Guests.{guest_in, moment_in}
use Rattle.radio_parts_mount.specs.Sessions.{Session}

-- the last moment that there is, for what is due at none
abbrev pub last_moment : ℕ
last_moment = 2 ^ 64 - 1

-- the first moment at which the other lies so many seconds back; none at all have always passed
abbrev pub due_at : ℕ → ℕ → ℕ
due_at seconds moment = (if seconds == 0 then 0 else min (moment + 1000 * seconds) last_moment)

-- who was seated at this moment is due if the mount sets a duration that it asked for
abbrev pub home_due : Settings → List ℕ → ℕ → ℕ
home_due settings home since = option_map_or (λ seconds. due_at seconds since) (options_for settings home).listeners.max_listener_duration last_moment

abbrev pub guest_due : Settings → Guest → ℕ
guest_due settings guest = home_due settings guest.home guest.since

abbrev pub seat_due : Settings → Seat → ℕ
seat_due settings seat = guest_due settings (guest_in seat)

abbrev pub listener_due : Settings → Listener → ℕ
listener_due settings listener = moment_in (guest_due settings) last_moment listener.seating

abbrev pub session_due : ℕ → Session → ℕ
session_due seconds session = due_at seconds session.last_block

-- the earliest moment at which one of these is due
abbrev pub earliest : {X : Type 0} → (X → ℕ) → List X → ℕ
earliest due xs = fold (λ first x. min first (due x)) last_moment xs
