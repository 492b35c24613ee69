-- The commands that paths and queries ask for: the table of the commands.
use Rattle.std.specs.Prelude.{ℕ, List, Option, None, Some, Result, Err, codes, if◌then◌else◌}
use Rattle.std.specs.Option.{option_map, option_and_then, ok_or}
use Rattle.std.specs.Str.{bytes_eq}
use Rattle.radio_admin.specs.declared.command.Command.{Command}
use Rattle.radio_admin.specs.declared.command.Command.TheVariants as asks
use Rattle.radio_admin.specs.declared.kind.CommandKind.{CommandKind}
use Rattle.radio_admin.specs.declared.kind.CommandKind.TheVariants as kind
use Rattle.radio_admin.specs.declared.fault.AdminFault.{AdminFault}
use Rattle.radio_admin.specs.declared.fault.AdminFault.TheVariants.{NoCommand, MissingArgument}
use Rattle.radio_admin.specs.Arguments.{argument, both, mount_in, number_argument, fallback_in, title_in, user_argument}
use Rattle.radio_admin.specs.Kinds.{kind_of}

-- the user is to be added where all three are there
abbrev pub add_user : Option (List ℕ) → Option (List ℕ) → Option (List ℕ) → Option Command
add_user (Some mount) (Some user) (Some password) = Some (asks.AddUser (record { mount = mount; user = user; password = password }))
add_user (Some mount) (Some user) None = None
add_user (Some mount) None password = None
add_user None user password = None

-- a user is added with a password, which may be empty, or is deleted; there is no other action
abbrev pub users_command : List ℕ → Option (List ℕ) → List ℕ → Option Command
users_command action mount query =
    if bytes_eq action (codes "add") then add_user mount (user_argument query) (argument (codes "password") query) else
    if bytes_eq action (codes "delete") then both (λ m user. asks.DeleteUser (record { mount = m; user = user })) mount (user_argument query) else
    None

-- the command of a kind, with its arguments, of which `mount` has been read
-- rule: No command
abbrev pub command_of : CommandKind → Option (List ℕ) → List ℕ → Option Command
command_of kind.Status mount query = Some asks.Status
command_of kind.Stats mount query = Some asks.Stats
command_of kind.ListMounts mount query = Some asks.ListMounts
command_of kind.ListClients mount query = option_map (λ m. asks.ListClients m) mount
command_of kind.MoveClients mount query =
    both (λ m destination. asks.MoveClients (record { mount = m; destination = destination }))
    mount (mount_in (codes "destination") query)
command_of kind.KillClient mount query =
    both (λ m id. asks.KillClient (record { mount = m; id = id })) mount (number_argument (codes "id") query)
command_of kind.KillSource mount query = option_map (λ m. asks.KillSource m) mount
command_of kind.Metadata mount query =
    both (λ m title. asks.Metadata (record { mount = m; title = title })) mount (title_in query)
command_of kind.Fallbacks mount query =
    both (λ m fallback. asks.Fallbacks (record { mount = m; fallback = fallback }))
    mount (fallback_in (codes "fallback") query)
command_of kind.StreamList mount query = Some asks.StreamList
command_of kind.Users mount query = option_and_then (λ action. users_command action mount query) (argument (codes "action") query)

-- the command of a kind that a path named, or why there is none
abbrev pub command_at : Option CommandKind → Option (List ℕ) → List ℕ → Result Command AdminFault
command_at None mount query = Err NoCommand
command_at (Some k) mount query = ok_or (command_of k mount query) (MissingArgument k mount)

-- the command that a path and a query ask for, or why there is none
-- rule: No command
unfoldable pub command_in : List ℕ → List ℕ → Result Command AdminFault
command_in path query = command_at (kind_of path) (mount_in (codes "mount") query) query

-- which command it is
abbrev pub kind_in : Command → CommandKind
kind_in asks.Status = kind.Status
kind_in asks.Stats = kind.Stats
kind_in asks.ListMounts = kind.ListMounts
kind_in (asks.ListClients mount) = kind.ListClients
kind_in (asks.MoveClients asked) = kind.MoveClients
kind_in (asks.KillClient asked) = kind.KillClient
kind_in (asks.KillSource mount) = kind.KillSource
kind_in (asks.Metadata asked) = kind.Metadata
kind_in (asks.Fallbacks asked) = kind.Fallbacks
kind_in asks.StreamList = kind.StreamList
kind_in (asks.AddUser asked) = kind.Users
kind_in (asks.DeleteUser asked) = kind.Users

-- the mount that a command names
abbrev pub mount_named : Command → Option (List ℕ)
mount_named asks.Status = None
mount_named asks.Stats = None
mount_named asks.ListMounts = None
mount_named (asks.ListClients mount) = Some mount
mount_named (asks.MoveClients asked) = Some asked.mount
mount_named (asks.KillClient asked) = Some asked.mount
mount_named (asks.KillSource mount) = Some mount
mount_named (asks.Metadata asked) = Some asked.mount
mount_named (asks.Fallbacks asked) = Some asked.mount
mount_named asks.StreamList = None
mount_named (asks.AddUser asked) = Some asked.mount
mount_named (asks.DeleteUser asked) = Some asked.mount
