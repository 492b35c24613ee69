-- From which moment on the time of something is over, so that before it no clock ends it.
use Rattle.std.specs.Prelude.{ℕ, ◌≤◌}
use Rattle.radio_tables.specs.Lists.{Each}
use Rattle.radio_parts_mount.specs.Due.{last_moment, due_at, seat_due, listener_due, session_due}
use Rattle.radio_parts_changes.specs.declared.change.Change.{Change}
use Rattle.radio_parts_changes.specs.declared.change.Change.TheVariants.{Admit, Begin, Raise, Receive, TakeSeat}
use Rattle.radio_parts_station.specs.Due.{client_due}
use Rattle.radio_parts_station.specs.World.{World}

-- each client, each listener and each session is due at this moment or later
pub record IsDueFrom (moment : ℕ) (w : World) : Type 0 where
  pub clients : Each (λ client. moment ≤ client_due w.station.settings.limits.header_timeout client) w.station.clients
  pub listeners : Each (λ listener. moment ≤ listener_due w.station.settings listener) w.seats
  pub sessions : Each (λ session. moment ≤ session_due w.station.settings.limits.source_timeout session) w.station.live

-- when what the change brings is due
abbrev pub due_by : World → Change → ℕ
due_by w (Admit id peer) = due_at w.station.settings.limits.header_timeout w.station.time
due_by w (Begin id mount shown) = due_at w.station.settings.limits.source_timeout w.station.time
due_by w (Raise id mount shown) = due_at w.station.settings.limits.source_timeout w.station.time
due_by w (Receive mount block) = due_at w.station.settings.limits.source_timeout w.station.time
due_by w (TakeSeat id seat) = seat_due w.station.settings seat
due_by w change = last_moment

-- it is this moment, and nothing else has changed
abbrev pub at_moment : World → ℕ → World
at_moment w ms = record w { station = record w.station { time = ms } }
