use Rattle.std.specs.Prelude.{Bool, true, not, List, [], ◌∷◌, ◌++◌, Option, Some, None}
use Rattle.radio_policy.specs.declared.rule.Rule.{Rule}
use Rattle.radio_policy.specs.declared.rule.Rule.TheVariants.{AddressDenied, AddressNotAllowed, TooManyClients, BadMount, SourcePassword}
use Rattle.radio_policy.specs.declared.rule.Rule.TheVariants.{TooManySources, MountInUse}
use Rattle.radio_policy.specs.declared.rule.Rule.TheVariants.{ContentType, NoMount, ListenerPassword, UserTwice, NumbersSpent}
use Rattle.radio_policy.specs.declared.facts.ArriveFacts.{ArriveFacts}
use Rattle.radio_policy.specs.declared.facts.SourceFacts.{SourceFacts}
use Rattle.radio_policy.specs.declared.facts.RelayFacts.{RelayFacts}
use Rattle.radio_policy.specs.declared.facts.PushFacts.{PushFacts}
use Rattle.radio_policy.specs.declared.facts.ListenFacts.{ListenFacts}
use Rattle.radio_policy.specs.declared.rule.Rule.TheVariants.{NoCommand, AdminPassword, RelayPassword, MissingArgument, NoDestination, SameMount, NoClient, NoUsers, NoUser}
use Rattle.radio_policy.specs.declared.facts.CommandFacts.{CommandFacts}
use Rattle.radio_policy.specs.declared.facts.CommandNeeds.{CommandNeeds}
use Rattle.radio_policy.specs.declared.facts.CommandNeeds.TheVariants.{Argument, Nothing, Mount, Destination, Client, Users, User}
use Rattle.radio_policy.specs.declared.facts.CommandAccess.{CommandAccess}
use Rattle.radio_policy.specs.declared.facts.CommandAccess.TheVariants.{Everybody, Pair}
use Rattle.radio_policy.specs.declared.facts.Opener.{Opener}
use Rattle.radio_policy.specs.declared.facts.Opener.TheVariants.{Admin as AdminAlone, Source as ItsSource, Relay as Relays}
use Rattle.radio_policy.specs.declared.facts.Action.{Action}
use Rattle.radio_policy.specs.declared.facts.Action.TheVariants.{Arrive, Source, Push, Listen, Command, RelayUp}

-- one row of the table: a rule, and whether its condition holds
pub record Row : Type 0 where
  pub rule : Rule
  pub holds : Bool

abbrev pub row : Rule → Bool → Row
row name condition = record { rule = name; holds = condition }

-- a connection arrives
-- rule: Order for a connection; Numbers spent
abbrev pub arrive_rows : ArriveFacts → List Row
arrive_rows facts =
    row AddressDenied facts.address_is_denied ∷
    row AddressNotAllowed (not facts.address_is_allowed) ∷
    row TooManyClients facts.clients_are_full ∷
    row NumbersSpent facts.number_is_spent ∷
    []

-- the path of a request names no mount
abbrev pub bad_mount_rows : List Row
bad_mount_rows = row BadMount true ∷ []

-- a source wants to feed the mount of a path
-- rule: Order for a source; Mount in use
abbrev pub source_rows : Option SourceFacts → List Row
source_rows None = bad_mount_rows
source_rows (Some facts) =
    row SourcePassword (not facts.is_source_pair) ∷
    row TooManySources facts.sources_are_full ∷
    row MountInUse facts.mount_is_live ∷
    row ContentType facts.type_is_refused ∷
    []

-- a relay wants to feed the mount of a path; who it is nobody asks
-- rule: Order for a relay; Numbers spent; Relay comes up
abbrev pub relay_rows : Option RelayFacts → List Row
relay_rows None = bad_mount_rows
relay_rows (Some facts) =
    row TooManySources facts.sources_are_full ∷
    row MountInUse facts.mount_is_live ∷
    row ContentType facts.type_is_refused ∷
    row NumbersSpent facts.number_is_spent ∷
    []

-- a source delivers a block
-- rule: Numbers spent
abbrev pub push_rows : PushFacts → List Row
push_rows facts =
    row NumbersSpent facts.number_is_spent ∷
    []

-- the rule that stops a walk, if one does
abbrev pub walk_rows : Option Rule → List Row
walk_rows None = []
walk_rows (Some stops) = row stops true ∷ []

-- a listener wants to hear the mount of a path
-- rule: Order for a listener
abbrev pub listen_rows : Option ListenFacts → List Row
listen_rows None = bad_mount_rows
listen_rows (Some facts) =
    row NoMount (not facts.mount_is_known) ∷
    row ListenerPassword (not facts.users_accept) ∷
    row UserTwice facts.user_is_twice ∷
    walk_rows facts.walk_stops

-- the rule that denies a command to whoever sends none of the pairs that open it
-- rule: Order for a command
abbrev pub password_rule : Opener → Rule
password_rule AdminAlone = AdminPassword
password_rule ItsSource = SourcePassword
password_rule Relays = RelayPassword

-- a command that everybody may give is denied to nobody
-- rule: Order for a command; Who may see
abbrev pub access_rows : CommandAccess → List Row
access_rows Everybody = []
access_rows (Pair opener is_sent) = row (password_rule opener) (not is_sent) ∷ []

-- what a command needs is not there
-- rule: Order for a command; No destination; Same mount; No client; No users; No user
abbrev pub needs_rows : CommandNeeds → List Row
needs_rows Argument = row MissingArgument true ∷ []
needs_rows Nothing = []
needs_rows (Mount is_live) = row NoMount (not is_live) ∷ []
needs_rows (Destination facts) =
    row NoMount (not facts.mount_is_live) ∷
    row NoDestination (not facts.destination_is_live) ∷
    row SameMount facts.is_same_mount ∷
    []
needs_rows (Client mount_is_live sits_there) =
    row NoMount (not mount_is_live) ∷
    row NoClient (not sits_there) ∷
    []
needs_rows (Users has_users) = row NoUsers (not has_users) ∷ []
needs_rows (User has_users is_listed) =
    row NoUsers (not has_users) ∷
    row NoUser (not is_listed) ∷
    []

-- a client gives the command of a path
-- rule: Order for a command
abbrev pub command_rows : Option CommandFacts → List Row
command_rows None = row NoCommand true ∷ []
command_rows (Some facts) = access_rows facts.access ++ needs_rows facts.needs

-- the rows of an action, in the order in which they are asked
abbrev pub table : Action → List Row
table (Arrive facts) = arrive_rows facts
table (Source facts) = source_rows facts
table (Push facts) = push_rows facts
table (Listen facts) = listen_rows facts
table (Command facts) = command_rows facts
table (RelayUp facts) = relay_rows facts
