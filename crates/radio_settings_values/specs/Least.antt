-- The settings in which every number is the least that it can be, every text is empty, and nothing is on.
use Rattle.std.specs.Prelude.{false, [], None}
use Rattle.radio_settings_values.specs.declared.settings.Login.{Login}
use Rattle.radio_settings_values.specs.declared.settings.MountOptions.{MountOptions}
use Rattle.radio_settings_values.specs.declared.settings.Settings.{Settings}

abbrev pub no_login : Login
no_login = record { username = []; password = [] }

abbrev pub least_options : MountOptions
least_options = record {
  source = no_login;
  listeners = record {
    max_listeners = None;
    max_listener_duration = None;
    fallback_mount = None;
    fallback_override = false;
    fallback_when_full = false;
  };
  stream = record {
    hidden = false;
    burst_size = 0;
    mp3_metadata_interval = 1;
    stream_name = None;
    genre = None;
    about = record { description = None; url = None; bitrate = None };
  };
  users = record { htpasswd = None; allow_duplicate_users = false };
}

abbrev pub least_settings : Settings
least_settings = record {
  access = record {
    source_password = [];
    admin = no_login;
    relays = record { username = []; password = None };
    addresses = record { deny_ip = None; allow_ip = None };
  };
  listen = record { address = []; port = 0; workers = 1 };
  limits = record { clients = 1; sources = 1; queue_size = 1; burst_size = 0; source_timeout = 1; header_timeout = 1 };
  web = record { allow_origin = None; icecast_status = false; page = false; public_url = None };
  mounts = [];
  other_mounts = least_options;
  relays = [];
  slave = None;
}
