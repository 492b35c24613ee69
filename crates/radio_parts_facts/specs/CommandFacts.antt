-- What is looked up in the server for one who gives a command.
use Rattle.std.specs.Prelude.{ℕ, Bool, false, ◌||◌, List, Option, None, Some, is_some}
use Rattle.std.specs.Option.{option_map_or}
use Rattle.std.specs.Str.{bytes_eq}
use Rattle.radio_policy.specs.declared.facts.CommandFacts.{CommandFacts}
use Rattle.radio_policy.specs.declared.facts.CommandNeeds.{CommandNeeds}
use Rattle.radio_policy.specs.declared.facts.CommandNeeds.TheVariants.{Argument, Nothing, Mount, Destination, Client, Users, User}
use Rattle.radio_policy.specs.declared.facts.CommandAccess.{CommandAccess}
use Rattle.radio_policy.specs.declared.facts.CommandAccess.TheVariants.{Everybody, Pair}
use Rattle.radio_policy.specs.declared.facts.Opener.{Opener}
use Rattle.radio_policy.specs.declared.facts.Opener.TheVariants.{Admin as AdminAlone, Source as ItsSource, Relay as Relays}
use Rattle.radio_policy.specs.Table.{Row, command_rows}
use Rattle.radio_creds.specs.Credentials.{Credentials}
use Rattle.radio_settings_values.specs.declared.settings.Settings.{Settings}
use Rattle.radio_access.specs.CommandPairs.{is_admin_pair, is_named_source_pair, is_relay_pair}
use Rattle.radio_access.specs.Lists.{has_users, has_user_at}
use Rattle.radio_seats_rows.specs.declared.seat.Listener.{Listener}
use Rattle.radio_seats_rows.specs.Seats.{seat_of}
use Rattle.radio_events.specs.declared.command.Asked.{Asked}
use Rattle.radio_events.specs.declared.command.Asked.TheVariants.{NoCommand, MissingArgument, Listing as AsksFor, Command as Asks}
use Rattle.radio_events.specs.declared.command.Command.{Command as TheCommand}
use Rattle.radio_events.specs.declared.command.Command.TheVariants.{MoveClients, KillClient, KillSource, SetTitle, SetFallback, AddUser, DeleteUser}
use Rattle.radio_events.specs.declared.command.CommandRequest.{CommandRequest}
use Rattle.radio_events.specs.declared.command.Listing.{Listing}
use Rattle.radio_events.specs.declared.command.Listing.TheVariants.{Status, Clients, Streams}
use Rattle.radio_events.specs.declared.command.OpenedBy.{OpenedBy}
use Rattle.radio_events.specs.declared.command.OpenedBy.TheVariants.{Admin, Source}
use Rattle.radio_parts_station.specs.StationState.{StationState}
use Rattle.radio_parts_mount.specs.Sessions.{session_of}
use Rattle.radio_parts_station.specs.World.{World}

-- a title and a fallback may be set by the mount's source too, all else by the admin alone
abbrev pub opened_by : TheCommand → OpenedBy
opened_by (MoveClients mount destination) = Admin
opened_by (KillClient mount listener) = Admin
opened_by (KillSource mount) = Admin
opened_by (AddUser mount user password) = Admin
opened_by (DeleteUser mount user) = Admin
opened_by (SetTitle mount title) = Source (Some mount)
opened_by (SetFallback mount fallback) = Source (Some mount)

abbrev pub opener_in : OpenedBy → Opener
opener_in Admin = AdminAlone
opener_in (Source mount) = ItsSource

-- the pair of the mount's source opens it
abbrev pub opens_as_source : Settings → OpenedBy → Option Credentials → Bool
opens_as_source settings Admin pair = false
opens_as_source settings (Source mount) pair = is_named_source_pair settings mount pair

-- the pair opens it; that of the admin opens all
-- rule: Who may command
abbrev pub opens : Settings → OpenedBy → Option Credentials → Bool
opens settings by pair = is_admin_pair settings pair || opens_as_source settings by pair

abbrev pub is_live : StationState → List ℕ → Bool
is_live station mount = is_some (session_of station.live mount)

-- the listener of this number sits at the mount
abbrev pub is_listener_at : List Listener → List ℕ → ℕ → Bool
is_listener_at seats mount id = option_map_or (λ seat. bytes_eq seat.mount mount) (seat_of seats id) false

-- what it needs, and whether it is there
-- rule: No mount; No destination; Same mount; No client; No users; No user; Waiting is not live
abbrev pub needs_of : World → TheCommand → CommandNeeds
needs_of w (MoveClients mount destination) = Destination (record {
  mount_is_live = is_live w.station mount;
  destination_is_live = is_live w.station destination;
  is_same_mount = bytes_eq mount destination;
})
needs_of w (KillClient mount listener) = Client (is_live w.station mount) (is_listener_at w.seats mount listener)
needs_of w (KillSource mount) = Mount (is_live w.station mount)
needs_of w (SetTitle mount title) = Mount (is_live w.station mount)
needs_of w (SetFallback mount fallback) = Mount (is_live w.station mount)
needs_of w (AddUser mount user password) = Users (has_users w.station.lists mount)
needs_of w (DeleteUser mount user) = User (has_users w.station.lists mount) (has_user_at w.station.lists mount user)

abbrev pub facts_for : World → OpenedBy → CommandNeeds → Option Credentials → CommandFacts
facts_for w by needs pair = record { access = Pair (opener_in by) (opens w.station.settings by pair); needs = needs }

-- everybody may see the status; the pair of relays opens the list of streams too, and all else is the admin's alone
-- rule: Who may see
abbrev pub access_to : Settings → Listing → Option Credentials → CommandAccess
access_to settings Status pair = Everybody
access_to settings Streams pair = Pair Relays (is_admin_pair settings pair || is_relay_pair settings pair)
access_to settings listing pair = Pair AdminAlone (is_admin_pair settings pair)

-- to list the listeners of a mount, it must be live
-- rule: Who may see
abbrev pub needs_to_list : World → Listing → CommandNeeds
needs_to_list w (Clients mount) = Mount (is_live w.station mount)
needs_to_list w listing = Nothing

abbrev pub facts_to_list : World → Listing → Option Credentials → CommandFacts
facts_to_list w listing pair = record { access = access_to w.station.settings listing pair; needs = needs_to_list w listing }

-- what is looked up for what its path and its arguments ask; nothing is where the path names no command
-- rule: Order for a command
abbrev pub facts_asked : World → Asked → Option Credentials → Option CommandFacts
facts_asked w NoCommand pair = None
facts_asked w (MissingArgument by) pair = Some (facts_for w by Argument pair)
facts_asked w (AsksFor listing) pair = Some (facts_to_list w listing pair)
facts_asked w (Asks command) pair = Some (facts_for w (opened_by command) (needs_of w command) pair)

-- the policy's rows for it, in this state
-- rule: Order for a command
abbrev pub rows_to_command : World → CommandRequest → List Row
rows_to_command w asked = command_rows (facts_asked w asked.asked asked.pair)
