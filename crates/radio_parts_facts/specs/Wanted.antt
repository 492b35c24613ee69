-- Mounts where somebody sits, which relays feed on demand.
use Rattle.std.specs.Prelude.{ℕ, Bool, ◌&&◌, nat_lt, if◌then◌else◌, List, [], fold}
use Rattle.std.specs.BTreeSet.{insert_key}
use Rattle.std.specs.Cmp.Lexicographic.{slice_cmp}
use Rattle.std.specs.Ordering.{nat_cmp}
use Rattle.radio_settings_values.specs.declared.settings.RelaySetting.{RelaySetting}
use Rattle.radio_seats_rows.specs.declared.seat.Listener.{Listener}
use Rattle.radio_seats_rows.specs.Seats.{count_at}
use Rattle.radio_parts_station.specs.World.{World}

-- the relay is on demand, and somebody sits at the mount that it feeds
-- rule: Pulls on demand
abbrev pub is_wanted : List Listener → RelaySetting → Bool
is_wanted seats relay = relay.on_demand && nat_lt 0 (count_at seats relay.local_mount)

-- the names, with that of its mount at its place in the order of their bytes, if it is wanted
abbrev pub with_wanted : List Listener → List (List ℕ) → RelaySetting → List (List ℕ)
with_wanted seats names relay = (if is_wanted seats relay then insert_key (slice_cmp nat_cmp) names relay.local_mount else names)

-- the mounts where somebody sits, which relays feed on demand, in the order of their bytes
-- rule: Pulls on demand
abbrev pub wanted : World → List (List ℕ)
wanted w = fold (with_wanted w.seats) [] w.station.settings.relays
