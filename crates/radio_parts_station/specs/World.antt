-- The server's state.
use Rattle.std.specs.Prelude.{ℕ, Bool, List, [], Option, Some, None, is_some}
use Rattle.radio_addr.specs.declared.peer.Peer.{Peer}
use Rattle.radio_settings_values.specs.declared.settings.Settings.{Settings}
use Rattle.radio_access.specs.Lists.{Lists}
use Rattle.radio_parts_station.specs.StationState.{StationState}
use Rattle.radio_parts_station.specs.declared.clients.ClientState.{ClientState}
use Rattle.radio_parts_station.specs.declared.clients.ClientState.TheVariants.{Undecided, Feeds, Listens, Answered, Ended}
use Rattle.radio_seats_rows.specs.declared.seat.Listener.{Listener}
use Rattle.radio_seats_rows.specs.declared.seat.Seating.{Seating}
use Rattle.radio_seats_rows.specs.declared.seat.Seating.TheVariants.{Sits as HasSeat, Finished as HasFinished}
use Rattle.radio_parts_station.specs.declared.standing.Standing.{Standing}
use Rattle.radio_parts_station.specs.declared.standing.Standing.TheVariants.{Unknown, Undecided as IsUndecided, Feeds as IsFeeding, Sits}
use Rattle.radio_parts_station.specs.declared.standing.Standing.TheVariants.{Answered as IsAnswered, Finished}
use Rattle.radio_parts_station.specs.declared.relays.RelayState.{RelayState}
use Rattle.radio_parts_station.specs.declared.relays.RelayState.TheVariants.{Feeds as RelayFeeds, Ended as RelayEnded}
use Rattle.radio_parts_station.specs.Clients.{Client, client_of}
use Rattle.radio_parts_station.specs.Relays.{Relay, relay_of}
use Rattle.radio_seats_rows.specs.Seats.{listener_of}

-- the station, and the table of those who listen in it
-- rule: Client states
pub record World : Type 0 where
  -- the moment, the settings and their lists, the live sessions, the fallbacks that were set, the clients, the relays, and the number that was given last
  pub station : StationState
  -- the listeners, in order of their numbers
  pub seats : List Listener

-- the station, and these listeners in it
abbrev pub world : StationState → List Listener → World
world station seats = record { station = station; seats = seats }

-- nothing has happened yet
abbrev pub opening : Settings → Lists → World
opening settings lists = record {
  station = record { time = 0; settings = settings; lists = lists; live = []; fallbacks = []; clients = []; relays = []; last_id = 0 };
  seats = [];
}

-- one who was admitted as a listener sits, or has finished by a rule
abbrev pub standing_seated : Seating → Standing
standing_seated (HasSeat seat) = Sits
standing_seated (HasFinished rule mount) = Finished rule

abbrev pub standing_of_listener : Option Listener → Standing
standing_of_listener None = IsAnswered
standing_of_listener (Some listener) = standing_seated listener.seating

-- the standing of a client from this address that does this, and is this listener if it is one
abbrev pub standing_of_client : Option Listener → Peer → ClientState → Standing
standing_of_client listener peer Undecided = IsUndecided peer
standing_of_client listener peer (Feeds mount) = IsFeeding mount
standing_of_client listener peer Listens = standing_of_listener listener
standing_of_client listener peer Answered = IsAnswered
standing_of_client listener peer (Ended rule) = Finished rule

-- and of a relay that does this
abbrev pub standing_relayed : RelayState → Standing
standing_relayed (RelayFeeds mount) = IsFeeding mount
standing_relayed (RelayEnded rule) = Finished rule

abbrev pub standing_of_relay : Option Relay → Standing
standing_of_relay None = Unknown
standing_of_relay (Some relay) = standing_relayed relay.state

abbrev pub standing_of_found : Option Relay → Option Listener → Option Client → Standing
standing_of_found relay listener None = standing_of_relay relay
standing_of_found relay listener (Some client) = standing_of_client listener client.peer client.state

-- the standing of the client or relay of this number
-- rule: Client states
abbrev pub standing_of : World → ℕ → Standing
standing_of w id = standing_of_found (relay_of w.station.relays id) (listener_of w.seats id) (client_of w.station.clients id)

-- there is a relay of this number
-- rule: Relay is no client
abbrev pub has_relay : World → ℕ → Bool
has_relay w id = is_some (relay_of w.station.relays id)
