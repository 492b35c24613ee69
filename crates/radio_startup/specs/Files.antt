-- What the files hold that the settings name, and the station that a settings file says. `holds path bytes` is that a file of
-- this path holds these bytes.
use Rattle.std.specs.Prelude.{◌≡◌, ℕ, List, [], ◌∷◌, Option, None, Some, Ok}
use Rattle.radio_access.specs.Lists.{Lists, no_lists, with_users}
use Rattle.radio_addr.specs.declared.lines.AddressRange.{AddressRange}
use Rattle.radio_addr.specs.Lists.{list_of}
use Rattle.radio_creds.specs.UserList.{users_of}
use Rattle.radio_settings.specs.Document.{reading_of}
use Rattle.radio_settings.specs.Listen.{IsPathOfProxies}
use Rattle.radio_settings.specs.Web.{answers_of_text}
use Rattle.radio_settings_values.specs.declared.settings.AddressLists.{AddressLists}
use Rattle.radio_settings_values.specs.declared.settings.MountSetting.{MountSetting}
use Rattle.radio_settings_values.specs.declared.settings.Settings.{Settings}
use Rattle.radio_startup.specs.declared.files.Station.{Station}

-- which file holds which bytes
abbrev pub Holding : Type 1
Holding = List ℕ → List ℕ → Type 0

-- the addresses of the file of this path, if one is named
abbrev pub AreAddresses : Holding → Option (List ℕ) → Option (List AddressRange) → Option (List AddressRange) → Type 0
AreAddresses holds None before after = after ≡ before
AreAddresses holds (Some path) before after =
    (bytes : List ℕ) × (ranges : List AddressRange) × holds path bytes × (list_of bytes ≡ Ok ranges) × (after ≡ Some ranges)

-- `deny-ip` names the addresses that are denied, and `allow-ip` the only ones that are allowed
abbrev pub ReadsAddresses : Holding → AddressLists → Lists → Lists → Type 0
ReadsAddresses holds named before after =
    AreAddresses holds named.deny_ip before.denied after.denied × AreAddresses holds named.allow_ip before.allowed after.allowed
    × (after.users ≡ before.users)

-- a mount has the users of the file of this path, if one is named
abbrev pub HasUsersOf : Holding → List ℕ → Option (List ℕ) → Lists → Lists → Type 0
HasUsersOf holds mount None before after = after ≡ before
HasUsersOf holds mount (Some path) before after =
    (bytes : List ℕ) × holds path bytes × (after ≡ with_users before mount (users_of bytes))

-- each mount has the users of its `htpasswd`, in the order of the tables
abbrev pub ReadUsers : Holding → List MountSetting → Lists → Lists → Type 0
ReadUsers holds [] before after = after ≡ before
ReadUsers holds (mount ∷ mounts) before after =
    (between : Lists) × HasUsersOf holds mount.name mount.options.users.htpasswd before between
    × ReadUsers holds mounts between after

-- the lists are those of the files that the settings name, and there are no others
-- rule: Files of the settings
abbrev pub AreListsOf : Holding → Settings → Lists → Type 0
AreListsOf holds settings lists =
    (addresses : Lists) × ReadsAddresses holds settings.access.addresses no_lists addresses
    × ReadUsers holds settings.mounts addresses lists

-- the proxies are those of the file that the settings of these bytes name, and there are none if they name none
abbrev pub AreProxiesAt : Holding → Option (List ℕ) → Option (List AddressRange) → Type 0
AreProxiesAt holds None proxies = proxies ≡ None
AreProxiesAt holds (Some path) proxies = (file : List ℕ) × (ranges : List AddressRange) × holds path file × (list_of file ≡ Ok ranges) × (proxies ≡ Some ranges)

-- rule: Files of the settings
abbrev pub AreProxiesOf : Holding → List ℕ → Option (List AddressRange) → Type 0
AreProxiesOf holds bytes proxies = (path : Option (List ℕ)) × IsPathOfProxies bytes path × AreProxiesAt holds path proxies

-- the station has the settings that these bytes say, what they say of answers, and the lists of the files that they name
-- rule: Settings check
pub record IsStationOf (holds : Holding) (bytes : List ℕ) (station : Station) : Type 0 where
  pub settings : reading_of bytes ≡ Ok station.settings
  pub answers : answers_of_text bytes ≡ Some station.answers
  pub lists : AreListsOf holds station.settings station.lists
  pub proxies : AreProxiesOf holds bytes station.proxies
