-- What of the station a client is shown.
use Rattle.std.specs.Prelude.{ℕ, ◌-◌, ◌/◌, List, [], unwrap_or, length, map}
use Rattle.std.specs.Option.{option_map}
use Rattle.radio_creds.specs.Credentials.{Credentials}
use Rattle.radio_settings_values.specs.Options.{options_for}
use Rattle.radio_seats.specs.Listed.{ListedGuest, guests_at}
use Rattle.radio_seats_rows.specs.Seats.{count_at}
use Rattle.radio_values.specs.declared.about.About.{About}
use Rattle.radio_listing.specs.declared.rows.AboutRow.{AboutRow}
use Rattle.radio_listing.specs.declared.rows.PublicRow.{PublicRow}
use Rattle.radio_listing.specs.declared.rows.MountRow.{MountRow}
use Rattle.radio_listing.specs.declared.rows.ListedListener.{ListedListener}
use Rattle.radio_listing.specs.Admin.{stats_text, mounts_text}
use Rattle.radio_listing.specs.Listeners.{listeners_text}
use Rattle.radio_listing.specs.Public.{status_text, stream_text}
use Rattle.radio_events.specs.declared.command.Listing.{Listing}
use Rattle.radio_events.specs.declared.command.Listing.TheVariants.{Status, Stats, Mounts, Clients, Streams}
use Rattle.radio_events.specs.declared.text.ReplyText.{ReplyText}
use Rattle.radio_events.specs.declared.text.ReplyText.TheVariants.{Json, Streams as StreamList, Public}
use Rattle.radio_parts_station.specs.Facts.{fallback_of}
use Rattle.radio_parts_mount.specs.Sessions.{Session}
use Rattle.radio_parts_station.specs.World.{World}

-- what a stream says of itself beyond its name and genre
abbrev pub about_row : About → AboutRow
about_row about = record {
  description = about.description;
  url = about.url;
  bitrate = about.bitrate;
  audio_info = about.audio_info;
}

-- what everybody may see of a live mount
abbrev pub public_row : World → Session → PublicRow
public_row w session = record {
  mount = session.mount;
  name = session.shown.name;
  genre = session.shown.genre;
  content_type = session.shown.content_type;
  title = unwrap_or session.title [];
  listeners = count_at w.seats session.mount;
  about = about_row session.shown.about;
}

abbrev pub row_of_session : World → Session → MountRow
row_of_session w session = record {
  public = public_row w session;
  hidden = (options_for w.station.settings session.mount).stream.hidden;
  session = session.number;
  fallback = fallback_of w.station session.mount;
}

-- the live mounts, in the order of their names
-- rule: Public status
abbrev pub mount_rows : World → List MountRow
mount_rows w = map (row_of_session w) w.station.live

-- how many whole seconds have gone by since a moment
abbrev pub seconds_since : ℕ → ℕ → ℕ
seconds_since moment now = (now - moment) / 1000

abbrev pub user_of : Credentials → List ℕ
user_of pair = pair.user

-- a listener, and how long it has listened
abbrev pub listener_row : ℕ → ListedGuest → ListedListener
listener_row now listed = record {
  home = listed.guest.home;
  id = listed.id;
  peer = listed.guest.peer;
  seconds = seconds_since listed.guest.since now;
  user = option_map user_of listed.guest.pair;
}

-- who sits at the mount, in the order of their numbers
-- rule: List of clients
abbrev pub listener_rows : World → List ℕ → List ListedListener
listener_rows w mount = map (listener_row w.station.time) (guests_at w.seats mount)

-- what is shown; who asks is counted among the clients
-- rule: Public status
abbrev pub shown : World → Listing → ReplyText
shown w Status = Public (status_text (mount_rows w)) w.station.settings.web.allow_origin
shown w Stats = Json (stats_text (length w.station.clients) (mount_rows w))
shown w Mounts = Json (mounts_text (mount_rows w))
shown w (Clients mount) = Json (listeners_text mount (listener_rows w mount))
shown w Streams = StreamList (stream_text (mount_rows w))
