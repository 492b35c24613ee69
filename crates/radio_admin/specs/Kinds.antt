-- The commands, and their paths.
use Rattle.std.specs.Prelude.{ℕ, List, [], ◌∷◌, Option, codes}
use Rattle.std.specs.List.{find}
use Rattle.std.specs.Str.{bytes_eq}
use Rattle.radio_admin.specs.declared.kind.CommandKind.{CommandKind}
use Rattle.radio_admin.specs.declared.kind.CommandKind.TheVariants.{Status, Stats, ListMounts, ListClients, MoveClients, KillClient}
use Rattle.radio_admin.specs.declared.kind.CommandKind.TheVariants.{KillSource, Metadata, Fallbacks, StreamList, Users}

-- the path of each command
-- rule: Public status
abbrev pub command_path : CommandKind → List ℕ
command_path Status = codes "/status.json"
command_path Stats = codes "/admin/stats"
command_path ListMounts = codes "/admin/listmounts"
command_path ListClients = codes "/admin/listclients"
command_path MoveClients = codes "/admin/moveclients"
command_path KillClient = codes "/admin/killclient"
command_path KillSource = codes "/admin/killsource"
command_path Metadata = codes "/admin/metadata"
command_path Fallbacks = codes "/admin/fallbacks"
command_path StreamList = codes "/admin/streamlist.txt"
command_path Users = codes "/admin/users"

-- every command
abbrev pub kinds : List CommandKind
kinds =
    Status ∷ Stats ∷ ListMounts ∷ ListClients ∷ MoveClients ∷ KillClient
    ∷ KillSource ∷ Metadata ∷ Fallbacks ∷ StreamList ∷ Users ∷ []

-- the command that a path names
unfoldable pub kind_of : List ℕ → Option CommandKind
kind_of path = find (λ kind. bytes_eq path (command_path kind)) kinds
