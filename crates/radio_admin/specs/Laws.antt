-- What the definitions say of every path and query.
use Rattle.std.specs.Prelude.{◌≡◌, ◌≢◌, ℕ, ◌<◌, List, Option, Some, None, All, codes}
use Rattle.std.specs.List.{find}
use Rattle.std.specs.Option.{option_map}
use Rattle.std.specs.Str.{bytes_eq}
use Rattle.std.specs.Str.Lossy.{utf8_lossy}
use Rattle.radio_admin.specs.declared.command.Command.{Command}
use Rattle.radio_admin.specs.declared.kind.CommandKind.{CommandKind}
use Rattle.radio_admin.specs.Kinds.{command_path}
use Rattle.radio_admin.specs.Arguments.{mount_in}
use Rattle.radio_admin.specs.Commands.{command_of}

-- the path is that of no command
abbrev pub NamesNoCommand : List ℕ → Type 0
NamesNoCommand path = (kind : CommandKind) → path ≢ command_path kind

-- the path is that of this kind, whose arguments the query has, and they make this command
pub record AsksFor (path query : List ℕ) (kind : CommandKind) (command : Command) : Type 0 where
  pub path_is : path ≡ command_path kind
  pub arguments : command_of kind (mount_in (codes "mount") query) query ≡ Some command

-- the path is that of this kind, the query names this mount or none, and it lacks an argument
pub record LacksAnArgument (path query : List ℕ) (kind : CommandKind) (mount : Option (List ℕ)) : Type 0 where
  pub path_is : path ≡ command_path kind
  pub mount_is : mount ≡ mount_in (codes "mount") query
  pub arguments : command_of kind mount query ≡ None

-- a pair of bytes
abbrev pub AreBytes : List ℕ × List ℕ → Type 0
AreBytes pair = All (λ b. b < 256) pair.0 × All (λ b. b < 256) pair.1

-- the value of the first pair of a name, as text
abbrev pub first_value : List ℕ → List (List ℕ × List ℕ) → Option (List ℕ)
first_value name pairs =
    option_map (λ pair. utf8_lossy pair.1) (find (λ pair. bytes_eq (utf8_lossy pair.0) name) pairs)
