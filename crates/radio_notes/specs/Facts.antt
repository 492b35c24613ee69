-- The facts that the log has of an event, if it is done.
use Rattle.std.specs.Prelude.{ℕ, List, [], ◌∷◌, ◌++◌, codes, decimal, Some}
use Rattle.radio_addr.specs.declared.peer.Peer.{Peer}
use Rattle.radio_events.specs.declared.command.Asked.{Asked}
use Rattle.radio_events.specs.declared.command.Asked.TheVariants.{Command as Given}
use Rattle.radio_events.specs.declared.command.Command.{Command}
use Rattle.radio_events.specs.declared.command.Command.TheVariants.{MoveClients, KillClient, KillSource, SetTitle, SetFallback, AddUser, DeleteUser}
use Rattle.radio_events.specs.declared.event.Event.{Event}
use Rattle.radio_events.specs.declared.event.Event.TheVariants.{Source, Command as Commands}
use Rattle.radio_events.specs.declared.event.SourceRequest.{SourceRequest}
use Rattle.radio_log.specs.declared.facts.Fact.{Fact}
use Rattle.radio_log.specs.declared.facts.Fact.TheVariants.{SourceUp, MountUp, Title, Command as CommandFact}
use Rattle.radio_notes.specs.Requests.{user_of_pair}

-- the name of a command, as the last part of its path
abbrev pub command_name : Command → List ℕ
command_name (MoveClients mount destination) = codes "moveclients"
command_name (KillClient mount listener) = codes "killclient"
command_name (KillSource mount) = codes "killsource"
command_name (SetTitle mount title) = codes "metadata"
command_name (SetFallback mount fallback) = codes "fallbacks"
command_name (AddUser mount user password) = codes "users"
command_name (DeleteUser mount user) = codes "users"

-- the mount that it is said of
abbrev pub mount_of_command : Command → List ℕ
mount_of_command (MoveClients mount destination) = mount
mount_of_command (KillClient mount listener) = mount
mount_of_command (KillSource mount) = mount
mount_of_command (SetTitle mount title) = mount
mount_of_command (SetFallback mount fallback) = mount
mount_of_command (AddUser mount user password) = mount
mount_of_command (DeleteUser mount user) = mount

-- what else it says: never a password
-- rule: Line of the log
abbrev pub argument_of : Command → List ℕ
argument_of (MoveClients mount destination) = destination
argument_of (KillClient mount listener) = decimal listener
argument_of (SetFallback mount (Some fallback)) = fallback
argument_of (AddUser mount user password) = codes "add " ++ user
argument_of (DeleteUser mount user) = codes "delete " ++ user
argument_of command = []

-- that a user has given a command
abbrev pub command_fact : Peer → List ℕ → Command → Fact
command_fact peer user command = CommandFact (record {
  name = command_name command;
  mount = mount_of_command command;
  argument = argument_of command;
  user = user;
  peer = peer;
})

-- the title that it sets
abbrev pub title_facts : Command → List Fact
title_facts (SetTitle mount title) = Title (record { mount = mount; title = title }) ∷ []
title_facts command = []

-- that it was given, and the title that it sets
abbrev pub facts_of_command : Peer → List ℕ → Command → List Fact
facts_of_command peer user command = command_fact peer user command ∷ title_facts command

-- that a source feeds a mount, and that the mount is live
abbrev pub facts_of_source : Peer → List ℕ → SourceRequest → List Fact
facts_of_source peer agent asked =
    SourceUp (record { mount = asked.mount; peer = peer; content_type = asked.shown.content_type; agent = agent })
    ∷ MountUp asked.mount ∷ []

-- of what is asked by a user: a command alone has facts
abbrev pub facts_of_asked : Peer → List ℕ → Asked → List Fact
facts_of_asked peer user (Given command) = facts_of_command peer user command
facts_of_asked peer user asked = []

-- the facts of an event of a client that has named this agent
-- rule: Lines of changes
abbrev pub facts_of : Peer → List ℕ → Event → List Fact
facts_of peer agent (Source asked) = facts_of_source peer agent asked
facts_of peer agent (Commands asked) = facts_of_asked peer (user_of_pair asked.pair) asked.asked
facts_of peer agent event = []
