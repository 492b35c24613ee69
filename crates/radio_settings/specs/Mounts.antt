-- The tables `[[mount]]`.
use Rattle.std.specs.Prelude.{Option, false, true, List, [], ◌∷◌, ◌++◌, codes, map}
use Rattle.toml.specs.Data.{Members}
use Rattle.radio_keys.specs.declared.fault.SettingsFault.{SettingsFault}
use Rattle.radio_keys.specs.declared.key.Key.TheVariants.{Mount, MountName, Username, Password, MaxListeners, MaxListenerDuration, FallbackMount}
use Rattle.radio_keys.specs.declared.key.Key.TheVariants.{FallbackOverride, FallbackWhenFull, Hidden, BurstSize, Mp3MetadataInterval, StreamName, Genre, StreamDescription, StreamUrl, Bitrate}
use Rattle.radio_keys.specs.declared.key.Key.TheVariants.{Htpasswd, AllowDuplicateUsers}
use Rattle.radio_keys.specs.Lookup.{text_at, text_or, field_at, number_at, number_or, flag_or, tables_at}
use Rattle.radio_keys.specs.Rows.{KeyRow, key_row, faults_in, first_fault, text, number, flag, mount_name, required, optional}
use Rattle.radio_settings_values.specs.declared.settings.AboutOptions.{AboutOptions}
use Rattle.radio_settings_values.specs.declared.settings.AccessSettings.{AccessSettings}
use Rattle.radio_settings_values.specs.declared.settings.LimitSettings.{LimitSettings}
use Rattle.radio_settings_values.specs.declared.settings.ListenerOptions.{ListenerOptions}
use Rattle.radio_settings_values.specs.declared.settings.Login.{Login}
use Rattle.radio_settings_values.specs.declared.settings.MountOptions.{MountOptions}
use Rattle.radio_settings_values.specs.declared.settings.MountSetting.{MountSetting}
use Rattle.radio_settings_values.specs.declared.settings.StreamOptions.{StreamOptions}
use Rattle.radio_settings_values.specs.declared.settings.UserOptions.{UserOptions}

abbrev pub source_keys : List KeyRow
source_keys = key_row Username text optional ∷ key_row Password text optional ∷ []

abbrev pub listener_keys : List KeyRow
listener_keys =
    key_row MaxListeners (number 0 1000000) optional
    ∷ key_row MaxListenerDuration (number 1 31536000) optional
    ∷ key_row FallbackMount mount_name optional
    ∷ key_row FallbackOverride flag optional
    ∷ key_row FallbackWhenFull flag optional
    ∷ []

-- what the settings say of a stream beyond its name and genre
abbrev pub about_keys : List KeyRow
about_keys =
    key_row StreamDescription text optional
    ∷ key_row StreamUrl text optional
    ∷ key_row Bitrate text optional
    ∷ []

abbrev pub stream_keys : List KeyRow
stream_keys =
    key_row Hidden flag optional
    ∷ key_row BurstSize (number 0 1073741824) optional
    ∷ key_row Mp3MetadataInterval (number 1 1000000) optional
    ∷ key_row StreamName text optional
    ∷ key_row Genre text optional
    ∷ about_keys

abbrev pub user_keys : List KeyRow
user_keys = key_row Htpasswd text optional ∷ key_row AllowDuplicateUsers flag optional ∷ []

abbrev pub option_keys : List KeyRow
option_keys = source_keys ++ (listener_keys ++ (stream_keys ++ user_keys))

abbrev pub mount_keys : List KeyRow
mount_keys = key_row MountName mount_name required ∷ option_keys

-- the first fault of all its keys but its name, and of some of them
unfoldable pub options_fault : Members → Option SettingsFault
options_fault table = first_fault (faults_in option_keys table)

unfoldable pub source_fault : Members → Option SettingsFault
source_fault table = first_fault (faults_in source_keys table)

unfoldable pub listeners_fault : Members → Option SettingsFault
listeners_fault table = first_fault (faults_in listener_keys table)

unfoldable pub stream_fault : Members → Option SettingsFault
stream_fault table = first_fault (faults_in stream_keys table)

unfoldable pub about_fault : Members → Option SettingsFault
about_fault table = first_fault (faults_in about_keys table)

unfoldable pub users_fault : Members → Option SettingsFault
users_fault table = first_fault (faults_in user_keys table)

-- its source's password is by default that of the whole station
unfoldable pub source_of : AccessSettings → Members → Login
source_of access table =
    record { username = text_or Username table (codes "source"); password = text_or Password table access.source_password }

unfoldable pub listeners_of : Members → ListenerOptions
listeners_of table = record {
  max_listeners = number_at MaxListeners table;
  max_listener_duration = number_at MaxListenerDuration table;
  fallback_mount = text_at FallbackMount table;
  fallback_override = flag_or FallbackOverride table false;
  fallback_when_full = flag_or FallbackWhenFull table false;
}

unfoldable pub about_options : Members → AboutOptions
about_options table = record {
  description = field_at StreamDescription table;
  url = field_at StreamUrl table;
  bitrate = field_at Bitrate table;
}

-- its burst is by default that of `[limits]`
unfoldable pub stream_options : LimitSettings → Members → StreamOptions
stream_options limits table = record {
  hidden = flag_or Hidden table false;
  burst_size = number_or BurstSize table limits.burst_size;
  mp3_metadata_interval = number_or Mp3MetadataInterval table 16000;
  stream_name = field_at StreamName table;
  genre = field_at Genre table;
  about = about_options table;
}

unfoldable pub user_options : Members → UserOptions
user_options table = record { htpasswd = text_at Htpasswd table; allow_duplicate_users = flag_or AllowDuplicateUsers table true }

-- what a table sets for a mount
unfoldable pub options_of : AccessSettings → LimitSettings → Members → MountOptions
options_of access limits table =
    record { source = source_of access table; listeners = listeners_of table; stream = stream_options limits table; users = user_options table }

-- the first fault of the keys of one
unfoldable pub mount_fault : Members → Option SettingsFault
mount_fault table = first_fault (faults_in mount_keys table)

unfoldable pub mount_setting_of : AccessSettings → LimitSettings → Members → MountSetting
mount_setting_of access limits table = record {
  name = text_or MountName table [];
  options = options_of access limits table;
}

abbrev pub mounts_of : AccessSettings → LimitSettings → Members → List MountSetting
mounts_of access limits document = map (mount_setting_of access limits) (tables_at Mount document)
