-- What each change makes of the station.
use Rattle.std.specs.Prelude.{ℕ, List, Option, map}
use Rattle.radio_policy.specs.declared.rule.Rule.{Rule}
use Rattle.radio_addr.specs.declared.peer.Peer.{Peer}
use Rattle.radio_values.specs.declared.field.Shown.{Shown}
use Rattle.radio_parts_mount.specs.Kept.{kept_fed}
use Rattle.radio_parts_mount.specs.Sessions.{opened, with_session, fed, titled}
use Rattle.radio_access.specs.Lists.{with_user_at, without_user_at}
use Rattle.radio_parts_station.specs.declared.clients.ClientState.{ClientState}
use Rattle.radio_parts_station.specs.declared.clients.ClientState.TheVariants.{Feeds, Ended}
use Rattle.radio_parts_station.specs.Clients.{undecided_client, with_client, in_state}
use Rattle.radio_parts_station.specs.Fallbacks.{with_fallback}
use Rattle.radio_parts_station.specs.StationState.{StationState}
use Rattle.radio_parts_station.specs.Relays.{risen, with_relay, with_relay_ended}
use Rattle.radio_parts_station.specs.Timeouts.{timed_out}

-- the client of this number does something else from now on
abbrev pub now_in_state : StationState → ℕ → ClientState → StationState
now_in_state station id state = record station { clients = in_state station.clients id state }

-- one client more, who has asked for nothing
abbrev pub with_arrival : StationState → ℕ → Peer → StationState
with_arrival station id peer = record station { clients = with_client station.clients (undecided_client id peer station.time); last_id = id }

-- a session has begun on the mount, which this client feeds
abbrev pub begun : StationState → ℕ → List ℕ → Shown → StationState
begun station id mount shown = record station {
  live = with_session station.live (opened mount id shown station.time);
  clients =
      in_state station.clients id (Feeds mount);
}

-- a relay has come up with this number, and a session has begun on the mount, which it feeds
-- rule: Relay comes up
abbrev pub raised : StationState → ℕ → List ℕ → Shown → StationState
raised station id mount shown = record station {
  live = with_session station.live (opened mount id shown station.time);
  relays = with_relay station.relays (risen id mount);
  last_id = id;
}

-- the rule has finished the client, or the relay, of this number
-- rule: Relay ended before
abbrev pub finished_in : StationState → ℕ → Rule → StationState
finished_in station id rule = record (now_in_state station id (Ended rule)) { relays = with_relay_ended station.relays id rule }

-- the block has come at the end of the mount's stream
abbrev pub received : StationState → List ℕ → List ℕ → StationState
received station mount block = record station { live = fed station.live mount block station.time }

-- the same, where of each stream the last blocks are kept, as far as a queue is long
abbrev pub kept_received : StationState → List ℕ → List ℕ → StationState
kept_received station mount block = record station { live = kept_fed station.settings.limits.queue_size station.live mount block station.time }

-- the mount's session has this title
abbrev pub retitled : StationState → List ℕ → List ℕ → StationState
retitled station mount title = record station { live = titled station.live mount title }

-- the listeners of the mount fall back to this one, or to none
abbrev pub falling_back : StationState → List ℕ → Option (List ℕ) → StationState
falling_back station mount fallback = record station { fallbacks = with_fallback station.fallbacks mount fallback }

-- it is this moment, and the clients who have asked for nothing in their time are finished
abbrev pub timed_out_by : StationState → ℕ → StationState
timed_out_by station ms = record station { time = ms; clients = map (timed_out station.settings.limits.header_timeout ms) station.clients }

-- the users of the mount let this one in with this password
abbrev pub with_mount_user : StationState → List ℕ → List ℕ → List ℕ → StationState
with_mount_user station mount user password = record station { lists = with_user_at station.lists mount user password }

-- the users of the mount do not let this one in
abbrev pub without_mount_user : StationState → List ℕ → List ℕ → StationState
without_mount_user station mount user = record station { lists = without_user_at station.lists mount user }
