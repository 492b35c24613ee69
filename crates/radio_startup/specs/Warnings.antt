-- What an operator should know of the settings, and of the keys of them that are passed over.
use Rattle.std.specs.Prelude.{ℕ, ◌==◌, ◌+◌, nat_lt, nat_le, if◌then◌else◌, List, [], ◌++◌, length, map, codes, Option, None, Some}
use Rattle.std.specs.List.{flat_map}
use Rattle.std.specs.Option.{option_to_list}
use Rattle.std.specs.Str.{bytes_eq}
use Rattle.std.specs.String.{string_bytes}
use Rattle.radio_addr.specs.Addresses.{peer_of}
use Rattle.radio_settings.specs.Sections.{section_word}
use Rattle.radio_keys.specs.Keys.{word}
use Rattle.radio_log.specs.declared.facts.Warning.{Warning}
use Rattle.radio_review.specs.declared.meant.Meant.{Meant}
use Rattle.radio_review.specs.declared.meant.Meant.TheVariants.{At, Key}
use Rattle.radio_review.specs.declared.unknown.UnknownKey.{UnknownKey}
use Rattle.radio_settings_values.specs.declared.settings.AccessSettings.{AccessSettings}
use Rattle.radio_settings_values.specs.declared.settings.MountSetting.{MountSetting}
use Rattle.radio_settings_values.specs.declared.settings.Settings.{Settings}
use Rattle.radio_startup.specs.Doubts.{is_loopback, is_set_mount, is_example, limited_listeners}

-- a warning of a key that the settings have
abbrev pub warning : List ℕ → List ℕ → List ℕ → ℕ → Warning
warning why key mount limit = record {
  why = why;
  key = key;
  mount = mount;
  limit = limit;
  place = record { table = []; line = 0; did_you_mean = []; belongs_to = [] };
}

-- the key of the same table that may have been meant
abbrev pub did_you_mean : Meant → List ℕ
did_you_mean (Key key) = word key
did_you_mean meant = []

-- the table that has a key of the name
abbrev pub belongs_to : Meant → List ℕ
belongs_to (At section) = section_word section
belongs_to meant = []

-- a key is passed over
abbrev pub unknown_key : UnknownKey → Warning
unknown_key unknown = record {
  why = codes "unknown-key";
  key = string_bytes unknown.key;
  mount = string_bytes unknown.mount;
  limit = 0;
  place = record {
    table = section_word unknown.section;
    line = unknown.line;
    did_you_mean = did_you_mean unknown.meant;
    belongs_to = belongs_to unknown.meant;
  };
}

-- The system allows fewer descriptors than this many clients need, and eight in addition. Nothing is known if it does
-- not say
abbrev pub few_descriptors : ℕ → Option ℕ → Option Warning
few_descriptors clients None = None
few_descriptors clients (Some limit) =
    if nat_lt limit (clients + 8) then Some (warning (codes "few-descriptors") (codes "clients") [] limit) else None

-- no other machine reaches the address
abbrev pub only_this_machine : List ℕ → Option Warning
only_this_machine address =
    if is_loopback (peer_of address) then Some (warning (codes "only-this-machine") (codes "address") [] 0) else None

-- the password of this key is empty, or known to everybody
abbrev pub weak_password : List ℕ → List ℕ → List ℕ → Option Warning
weak_password key mount password =
    if length password == 0 then Some (warning (codes "empty-password") key mount 0)
    else if is_example password then Some (warning (codes "example-password") key mount 0) else None

-- the same of a password that is there
abbrev pub weak_relay_password : Option (List ℕ) → Option Warning
weak_relay_password None = None
weak_relay_password (Some password) = weak_password (codes "relay-password") [] password

-- the same of the password of a mount's own source, unless it is the one of all mounts
abbrev pub weak_mount_password : List ℕ → MountSetting → Option Warning
weak_mount_password source mount =
    if bytes_eq mount.options.source.password source then None
    else weak_password (codes "password") mount.name mount.options.source.password

-- the settings name no mount of the name
abbrev pub unnamed_fallback : Settings → List ℕ → Option (List ℕ) → Option Warning
unnamed_fallback settings mount None = None
unnamed_fallback settings mount (Some fallback) =
    if is_set_mount settings fallback then None else Some (warning (codes "unknown-fallback") (codes "fallback-mount") mount 0)

-- the fallback of a mount is named nowhere
abbrev pub unknown_fallback : Settings → MountSetting → Option Warning
unknown_fallback settings mount = unnamed_fallback settings mount.name mount.options.listeners.fallback_mount

-- the listeners of the mounts that have a limit leave no room for sources and commands
abbrev pub no_room : List MountSetting → ℕ → Option Warning
no_room mounts clients =
    if nat_le clients (limited_listeners mounts)
    then Some (warning (codes "no-room-for-others") (codes "max-listeners") [] clients) else None

-- the warnings of the passwords of the whole station: of all mounts' sources, of the admin and of relays
abbrev pub of_station_passwords : AccessSettings → List Warning
of_station_passwords access =
    option_to_list (weak_password (codes "source-password") [] access.source_password)
    ++ option_to_list (weak_password (codes "admin-password") [] access.admin.password)
    ++ option_to_list (weak_relay_password access.relays.password)

-- the warnings of passwords: those, and of each mount's own source
abbrev pub of_passwords : Settings → List Warning
of_passwords settings =
    of_station_passwords settings.access
    ++ flat_map (λ mount. option_to_list (weak_mount_password settings.access.source_password mount)) settings.mounts

-- the warnings of mounts: of each mount's fallback, and of the room that is left
abbrev pub of_streams : Settings → List Warning
of_streams settings =
    flat_map (λ mount. option_to_list (unknown_fallback settings mount)) settings.mounts
    ++ option_to_list (no_room settings.mounts settings.limits.clients)

-- all warnings, in the order of their lines
-- rule: Doubtful settings
abbrev pub warnings_of : Settings → List UnknownKey → Option ℕ → List Warning
warnings_of settings unknown descriptors =
    map unknown_key unknown
    ++ option_to_list (few_descriptors settings.limits.clients descriptors)
    ++ option_to_list (only_this_machine settings.listen.address)
    ++ of_passwords settings
    ++ of_streams settings
