-- Which mounts are live, and who feeds them, as the registry notes it next to the sessions.
use Rattle.std.specs.Prelude.{◌≡◌, ℕ, Bool, List, map, filter, not}
use Rattle.std.specs.declared.cmp.Ordering.{Ordering}
use Rattle.std.specs.Cmp.Lexicographic.{slice_cmp}
use Rattle.std.specs.Ordering.{nat_cmp}
use Rattle.std.specs.Str.{bytes_eq}
use Rattle.radio_tables.specs.Lists.{placed}
use Rattle.radio_parts_mount.specs.Sessions.{Session, opened}
use Rattle.radio_fallback.specs.Walk.{Sight}
use Rattle.radio_parts_station.specs.declared.live.LiveMount.{LiveMount}
use Rattle.radio_parts_station.specs.Registry.{Registry, station_state}
use Rattle.radio_parts_station.specs.Facts.{sight_of}
use Rattle.radio_parts_station.specs.StationState.{StationState}
use Rattle.radio_parts_station.specs.Waiting.{shown_by_nobody}

abbrev pub is_live_mount : List ℕ → LiveMount → Bool
is_live_mount mount row = bytes_eq row.mount mount

-- they are in the order of their mounts' bytes
abbrev pub live_by_name : LiveMount → LiveMount → Ordering
live_by_name a b = slice_cmp nat_cmp a.mount b.mount

-- one more is live
abbrev pub with_live_mount : List LiveMount → LiveMount → List LiveMount
with_live_mount rows row = placed live_by_name row rows

-- one is live no more
abbrev pub without_live : List LiveMount → List ℕ → List LiveMount
without_live rows mount = filter (λ row. not (is_live_mount mount row)) rows

-- what is noted of a session
abbrev pub live_mount : Session → LiveMount
live_mount session = record { mount = session.mount; number = session.number }

-- the mounts that are noted are those of these sessions
abbrev pub AreLive : List LiveMount → List Session → Type 0
AreLive rows live = rows ≡ map live_mount live

-- a session of which no more is known than is noted
abbrev pub bare_session : LiveMount → Session
bare_session row = opened row.mount row.number shown_by_nobody 0

-- the station as far as the registry knows it: of each session its mount and its number
abbrev pub bare_station : Registry → StationState
bare_station registry = station_state registry (map bare_session registry.live)

-- what a walk sees of the registry
abbrev pub sight_in : Registry → Sight
sight_in registry = sight_of (bare_station registry)
