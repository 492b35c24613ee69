-- Who is let in by the files that the settings name.
use Rattle.std.specs.Prelude.{ℕ, Bool, true, false, not, ◌&&◌, List, [], Option, None, Some, is_some, find}
use Rattle.std.specs.declared.cmp.Ordering.{Ordering}
use Rattle.std.specs.Cmp.Lexicographic.{slice_cmp}
use Rattle.std.specs.FinMap as map
use Rattle.std.specs.Option.{option_map_or}
use Rattle.std.specs.Ordering.{nat_cmp}
use Rattle.std.specs.Str.{bytes_eq}
use Rattle.md5.specs.Md5.{md5}
use Rattle.radio_addr.specs.declared.address.Address.{Address}
use Rattle.radio_addr.specs.declared.lines.AddressRange.{AddressRange}
use Rattle.radio_addr.specs.Lists.{is_listed}
use Rattle.radio_creds.specs.Credentials.{Credentials}
use Rattle.radio_creds.specs.UserList.{UserList, has_user, with_user, without_user}
use Rattle.radio_tables.specs.Lists.{placed, update_first}
use Rattle.radio_access.specs.declared.lists.MountUsers.{MountUsers}

pub record Lists : Type 0 where
  -- the addresses that are denied, if a list of them is given
  pub denied : Option (List AddressRange)
  -- the only addresses that are allowed, if a list of them is given
  pub allowed : Option (List AddressRange)
  -- the users of each mount that has a list of them, in the order of the mounts' names
  pub users : List MountUsers

abbrev pub no_lists : Lists
no_lists = record { denied = None; allowed = None; users = [] }

-- a deny list is given, and lists the address
-- rule: Address denied; Address not allowed
abbrev pub is_denied : Lists → Address → Bool
is_denied lists peer = option_map_or (λ ranges. is_listed ranges peer) lists.denied false

-- no allow list is given, or it lists the address
-- rule: Address denied; Address not allowed
abbrev pub is_allowed : Lists → Address → Bool
is_allowed lists peer = option_map_or (λ ranges. is_listed ranges peer) lists.allowed true

-- the address passes both lists
-- rule: Address denied; Address not allowed
abbrev pub passes : Lists → Address → Bool
passes lists peer = not (is_denied lists peer) && is_allowed lists peer

abbrev pub is_users_of_mount : List ℕ → MountUsers → Bool
is_users_of_mount mount listed = bytes_eq listed.mount mount

-- the users of the mount, if it has a list of them
abbrev pub users_at : Lists → List ℕ → Option MountUsers
users_at lists mount = find (is_users_of_mount mount) lists.users

abbrev pub order_of_mounts : MountUsers → MountUsers → Ordering
order_of_mounts a b = slice_cmp nat_cmp a.mount b.mount

-- the mount has these users from now on
abbrev pub with_users : Lists → List ℕ → UserList → Lists
with_users lists mount users = record lists { users = placed order_of_mounts (record { mount = mount; users = users }) lists.users }

-- the mount has users
abbrev pub has_users : Lists → List ℕ → Bool
has_users lists mount = is_some (users_at lists mount)

-- the mount has users, and this is one of them
abbrev pub has_user_at : Lists → List ℕ → List ℕ → Bool
has_user_at lists mount user = option_map_or (λ listed. has_user listed.users user) (users_at lists mount) false

-- the user of this name has this password
abbrev pub listing : List ℕ → List ℕ → MountUsers → MountUsers
listing user password listed = record listed { users = with_user listed.users user password }

-- the user is none of them
abbrev pub unlisting : List ℕ → MountUsers → MountUsers
unlisting user listed = record listed { users = without_user listed.users user }

-- the users of the mount, if it has users, let this one in with this password, and no more as they did before
abbrev pub with_user_at : Lists → List ℕ → List ℕ → List ℕ → Lists
with_user_at lists mount user password = record lists { users = update_first (is_users_of_mount mount) (listing user password) lists.users }

-- the users of the mount do not let this one in
abbrev pub without_user_at : Lists → List ℕ → List ℕ → Lists
without_user_at lists mount user = record lists { users = update_first (is_users_of_mount mount) (unlisting user) lists.users }

-- a digest is listed, and is that of the password
abbrev pub is_digest_of : List ℕ → Option (List ℕ) → Bool
is_digest_of password listed = option_map_or (λ digest. bytes_eq digest (md5 password)) listed false

-- the users accept what was sent: a pair whose user they list, with the digest of its password
-- rule: Listener password
abbrev pub accepts : UserList → Option Credentials → Bool
accepts users None = false
accepts users (Some pair) = is_digest_of pair.password (map.get users pair.user)

-- the mount is open to one who sends this: it has no users, or they accept it
-- rule: Listener password
abbrev pub lets_in : Lists → List ℕ → Option Credentials → Bool
lets_in lists mount pair = option_map_or (λ listed. accepts listed.users pair) (users_at lists mount) true
