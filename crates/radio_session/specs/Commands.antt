-- What the path of a command and its arguments ask for.
use Rattle.std.specs.Prelude.{ℕ, List, Option, Result, Ok, Err}
use Rattle.radio_admin.specs.declared.command.Command.{Command as Read}
use Rattle.radio_admin.specs.declared.command.Command.TheVariants as read
use Rattle.radio_admin.specs.declared.kind.CommandKind.{CommandKind}
use Rattle.radio_admin.specs.declared.kind.CommandKind.TheVariants.{Metadata, Fallbacks}
use Rattle.radio_admin.specs.declared.fault.AdminFault.{AdminFault}
use Rattle.radio_admin.specs.declared.fault.AdminFault.TheVariants as fault
use Rattle.radio_admin.specs.Commands.{command_in}
use Rattle.radio_events.specs.declared.command.Asked.{Asked}
use Rattle.radio_events.specs.declared.command.Asked.TheVariants.{NoCommand, MissingArgument, Listing, Command}
use Rattle.radio_events.specs.declared.command.OpenedBy.TheVariants.{Admin, Source}
use Rattle.radio_events.specs.declared.command.Command.TheVariants as asks
use Rattle.radio_events.specs.declared.command.Listing.TheVariants as shows
use Rattle.radio_values.specs.Cleaning.{cleaned}
use Rattle.radio_values.specs.Limits.{max_title}

-- what a command that was read asks for: a listing or a command; a title is cleaned
-- rule: Commands by GET
abbrev pub asked_with : Read → Asked
asked_with (read.MoveClients sent) = Command (asks.MoveClients sent.mount sent.destination)
asked_with (read.KillClient sent) = Command (asks.KillClient sent.mount sent.id)
asked_with (read.KillSource mount) = Command (asks.KillSource mount)
asked_with (read.Metadata sent) = Command (asks.SetTitle sent.mount (cleaned max_title sent.title))
asked_with (read.Fallbacks sent) = Command (asks.SetFallback sent.mount sent.fallback)
asked_with (read.AddUser sent) = Command (asks.AddUser sent.mount sent.user sent.password)
asked_with (read.DeleteUser sent) = Command (asks.DeleteUser sent.mount sent.user)
asked_with read.Status = Listing shows.Status
asked_with read.Stats = Listing shows.Stats
asked_with read.ListMounts = Listing shows.Mounts
asked_with (read.ListClients mount) = Listing (shows.Clients mount)
asked_with read.StreamList = Listing shows.Streams

-- A command of this kind lacks an argument, and names this mount, if any. The mount's source may set a title or a fallback; the
-- other commands are the admin's alone.
-- rule: Missing argument
abbrev pub lacking : CommandKind → Option (List ℕ) → Asked
lacking Metadata mount = MissingArgument (Source mount)
lacking Fallbacks mount = MissingArgument (Source mount)
lacking kind mount = MissingArgument Admin

-- what the result of the reader asks for
abbrev pub asked_by : Result Read AdminFault → Asked
asked_by (Ok command) = asked_with command
asked_by (Err (fault.MissingArgument kind mount)) = lacking kind mount
asked_by (Err other) = NoCommand

-- what a path and its query ask for
-- rule: Commands by GET
abbrev pub asked_in : List ℕ → List ℕ → Asked
asked_in path query = asked_by (command_in path query)
