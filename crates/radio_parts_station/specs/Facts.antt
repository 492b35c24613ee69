-- What is looked up in the server for the policy.
use Rattle.std.specs.Prelude.{ℕ, ◌+◌, ◌-◌, ◌^◌, ◌==◌, nat_lt, Bool, not, ◌&&◌, ◌||◌, if◌then◌else◌, List, length, Option, None, Some, is_some, find}
use Rattle.std.specs.Option.{option_map_or}
use Rattle.std.specs.Str.{bytes_eq}
use Rattle.radio_policy.specs.declared.rule.Rule.{Rule}
use Rattle.radio_policy.specs.declared.facts.ArriveFacts.{ArriveFacts}
use Rattle.radio_policy.specs.declared.facts.SourceFacts.{SourceFacts}
use Rattle.radio_policy.specs.declared.facts.RelayFacts.{RelayFacts}
use Rattle.radio_policy.specs.declared.facts.PushFacts.{PushFacts}
use Rattle.radio_policy.specs.declared.facts.ListenFacts.{ListenFacts}
use Rattle.radio_policy.specs.Table.{Row, arrive_rows, source_rows, relay_rows, push_rows, listen_rows}
use Rattle.radio_addr.specs.declared.peer.Peer.{Peer}
use Rattle.radio_creds.specs.Credentials.{Credentials}
use Rattle.radio_values.specs.declared.field.Shown.{Shown}
use Rattle.radio_settings_values.specs.declared.settings.Settings.{Settings}
use Rattle.radio_values.specs.MountName.{is_mount_name}
use Rattle.radio_settings_values.specs.Web.{is_web_path}
use Rattle.radio_settings_values.specs.Options.{options_for}
use Rattle.radio_access.specs.Lists.{is_denied, is_allowed, lets_in}
use Rattle.radio_access.specs.SourcePair.{is_source_pair}
use Rattle.radio_access.specs.ContentTypes.{is_refused_type}
use Rattle.radio_seats_rows.specs.declared.seat.Listener.{Listener}
use Rattle.radio_fallback.specs.declared.walking.Landing.{Landing}
use Rattle.radio_fallback.specs.Walk.{Sight, found_at, landing, stop_in}
use Rattle.radio_events.specs.declared.event.SourceRequest.{SourceRequest}
use Rattle.radio_events.specs.declared.event.ListenRequest.{ListenRequest}
use Rattle.radio_parts_station.specs.StationState.{StationState}
use Rattle.radio_parts_station.specs.Fallbacks.{set_for}
use Rattle.radio_parts_mount.specs.StatePart.{end_in}
use Rattle.radio_parts_mount.specs.Sessions.{session_of}
use Rattle.radio_parts_station.specs.Waiting.{heard_at}
use Rattle.radio_parts_station.specs.World.{World}

-- the largest number that the number of a client or relay, or a place in a stream, can be
abbrev pub largest_number : ℕ
largest_number = 2 ^ 64 - 1

-- there are as many as there may be
abbrev pub is_limit_reached : ℕ → ℕ → Bool
is_limit_reached count limit = not (nat_lt count limit)

-- the path names a mount: it has the form of a name, and is none of the web site's
-- rule: Bad mount; Paths of the web site
abbrev pub names_mount : Settings → List ℕ → Bool
names_mount settings path = is_mount_name path && not (is_web_path settings.web path)

-- the settings have a table for the mount, or a relay that feeds it
abbrev pub is_in_settings : Settings → List ℕ → Bool
is_in_settings settings mount =
    is_some (find (λ set. bytes_eq set.name mount) settings.mounts) || is_some (find (λ relay. bytes_eq relay.local_mount mount) settings.relays)

-- the settings know the mount, or it is live
abbrev pub is_known : StationState → List ℕ → Bool
is_known station mount = is_in_settings station.settings mount || is_some (session_of station.live mount)

-- how far the stream of the mount's session goes
abbrev pub live_end : StationState → List ℕ → ℕ
live_end station mount = end_in (session_of station.live mount)

-- the number of the mount's session
abbrev pub live_number : StationState → List ℕ → ℕ
live_number station mount = option_map_or (λ session. session.number) (session_of station.live mount) 0

-- to which mount the listeners of this one fall back, if to any: what a command has set, else what the settings say
-- rule: Fallback of a mount
abbrev pub fallback_of : StationState → List ℕ → Option (List ℕ)
fallback_of station mount =
    option_map_or (λ set. set.fallback) (set_for station.fallbacks mount) (options_for station.settings mount).listeners.fallback_mount

-- what a walk sees of the station
-- rule: End of a walk; Closed to moves
abbrev pub sight_of : StationState → Sight
sight_of station = record {
  -- at a mount that waits for a session one may sit, as at a live one
  is_live = λ mount. is_some (heard_at station mount);
  limit = λ mount. (options_for station.settings mount).listeners.max_listeners;
  lets_in = lets_in station.lists;
  allows_duplicates = λ mount. (options_for station.settings mount).users.allow_duplicate_users;
  fallback = fallback_of station;
  hands_on_when_full = λ mount. (options_for station.settings mount).listeners.fallback_when_full;
  stream_end = λ mount. record { session = live_number station mount; place = live_end station mount };
}

-- where a walk from the mount ends, of one who does not sit yet
-- rule: End of a walk
abbrev pub walks_to : StationState → List Listener → List ℕ → Option Credentials → Landing
walks_to station seats mount pair = landing (sight_of station) seats pair mount

-- the rule that stops it, if one does
-- rule: End of a session
abbrev pub walk_stops : StationState → List Listener → List ℕ → Option Credentials → Option Rule
walk_stops station seats mount pair = stop_in (walks_to station seats mount pair)

-- what is looked up for each action; nothing is where the path names no mount
abbrev pub arrive_facts : StationState → Peer → ArriveFacts
arrive_facts station peer = record {
  address_is_denied = is_denied station.lists peer;
  address_is_allowed = is_allowed station.lists peer;
  clients_are_full = is_limit_reached (length station.clients) station.settings.limits.clients;
  number_is_spent = station.last_id == largest_number;
}

abbrev pub source_facts_at : StationState → List ℕ → SourceRequest → SourceFacts
source_facts_at station mount asked = record {
  is_source_pair = is_source_pair station.settings mount asked.pair;
  sources_are_full = is_limit_reached (length station.live) station.settings.limits.sources;
  mount_is_live = is_some (session_of station.live mount);
  type_is_refused = is_refused_type asked.shown.content_type;
}

abbrev pub source_facts : StationState → SourceRequest → Option SourceFacts
source_facts station asked = (if names_mount station.settings asked.mount then Some (source_facts_at station asked.mount asked) else None)

abbrev pub relay_facts_at : StationState → List ℕ → Shown → RelayFacts
relay_facts_at station mount shown = record {
  sources_are_full = is_limit_reached (length station.live) station.settings.limits.sources;
  mount_is_live = is_some (session_of station.live mount);
  type_is_refused = is_refused_type shown.content_type;
  number_is_spent = station.last_id == largest_number;
}

-- rule: Order for a relay
abbrev pub relay_facts : StationState → List ℕ → Shown → Option RelayFacts
relay_facts station mount shown = (if names_mount station.settings mount then Some (relay_facts_at station mount shown) else None)

abbrev pub push_facts : StationState → List ℕ → List ℕ → PushFacts
push_facts station mount block = record { number_is_spent = nat_lt largest_number (live_end station mount + length block) }

abbrev pub listen_facts_at : StationState → List Listener → List ℕ → Option Credentials → ListenFacts
listen_facts_at station seats mount pair = let found = found_at (sight_of station) seats mount pair in record {
  mount_is_known = is_known station mount;
  users_accept = found.users_accept;
  user_is_twice = found.user_is_twice;
  walk_stops = walk_stops station seats mount pair;
}

abbrev pub listen_facts : StationState → List Listener → ListenRequest → Option ListenFacts
listen_facts station seats asked = (if names_mount station.settings asked.mount then Some (listen_facts_at station seats asked.mount asked.pair) else None)

-- the policy's rows for each action, in this state
-- rule: Order for a connection
abbrev pub rows_to_arrive : StationState → Peer → List Row
rows_to_arrive station peer = arrive_rows (arrive_facts station peer)

-- rule: Order for a source
abbrev pub rows_to_feed : StationState → SourceRequest → List Row
rows_to_feed station asked = source_rows (source_facts station asked)

-- rule: Order for a relay
abbrev pub rows_to_raise : StationState → List ℕ → Shown → List Row
rows_to_raise station mount shown = relay_rows (relay_facts station mount shown)

-- rule: Numbers spent
abbrev pub rows_to_push : StationState → List ℕ → List ℕ → List Row
rows_to_push station mount block = push_rows (push_facts station mount block)

-- rule: Order for a listener
abbrev pub rows_to_listen : World → ListenRequest → List Row
rows_to_listen w asked = listen_rows (listen_facts w.station w.seats asked)
