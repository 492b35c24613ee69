-- From which moment on the time of somebody is over, so that before it no clock ends it.
use Rattle.std.specs.Prelude.{ℕ, min}
use Rattle.radio_seats_rows.specs.Guests.{first_moment}
use Rattle.radio_parts_mount.specs.Due.{last_moment, due_at, guest_due, session_due, earliest}
use Rattle.radio_parts_station.specs.Clients.{Client}
use Rattle.radio_parts_station.specs.declared.clients.ClientState.{ClientState}
use Rattle.radio_parts_station.specs.declared.clients.ClientState.TheVariants.{Undecided}
use Rattle.radio_parts_station.specs.World.{World}

-- a client of this state, who arrived then, is due if it has asked for nothing
abbrev pub due_in_state : ℕ → ℕ → ClientState → ℕ
due_in_state seconds arrived Undecided = due_at seconds arrived
due_in_state seconds arrived state = last_moment

abbrev pub client_due : ℕ → Client → ℕ
client_due seconds client = due_in_state seconds client.arrived client.state

-- the earliest moment at which a client, a listener or a session is due
abbrev pub first_due : World → ℕ
first_due w = min (earliest (client_due w.station.settings.limits.header_timeout) w.station.clients)
    (min (first_moment (guest_due w.station.settings) last_moment w.seats) (earliest (session_due w.station.settings.limits.source_timeout) w.station.live))
