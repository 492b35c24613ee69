-- What is shown at the paths of the web site.
use Rattle.std.specs.Prelude.{ℕ, List, [], codes, unwrap_or}
use Rattle.radio_settings_values.specs.declared.settings.Settings.{Settings}
use Rattle.radio_settings_values.specs.declared.web.WebPath.{WebPath}
use Rattle.radio_settings_values.specs.declared.web.WebPath.TheVariants.{IcecastStatus, Page as AtPage}
use Rattle.radio_listing.specs.declared.rows.ListedServer.{ListedServer}
use Rattle.radio_listing.specs.Icecast.{icecast_text}
use Rattle.radio_listing.specs.Reached.{base_url}
use Rattle.radio_events.specs.declared.event.PageVisit.{PageVisit}
use Rattle.radio_events.specs.declared.text.ReplyText.{ReplyText}
use Rattle.radio_events.specs.declared.text.ReplyText.TheVariants.{Public, Page}
use Rattle.radio_parts_facts.specs.Listings.{mount_rows}
use Rattle.radio_parts_station.specs.World.{World}

-- what is written before a mount's name in its URL: what the settings say, else how the client calls the server
-- rule: Icecast status
abbrev pub url_for : Settings → List ℕ → List ℕ
url_for settings host = unwrap_or settings.web.public_url (base_url host settings.listen.address settings.listen.port)

-- the server, as it describes itself on this visit
abbrev pub server_as : Settings → PageVisit → ListedServer
server_as settings visit = record {
  name = codes "radiod";
  base_url = url_for settings visit.host;
  start = unwrap_or visit.server_start [];
}

-- what is shown at a path of the web site on this visit
-- rule: Icecast status
abbrev pub page_at : World → WebPath → PageVisit → ReplyText
page_at w IcecastStatus visit = Public (icecast_text (server_as w.station.settings visit) (mount_rows w)) w.station.settings.web.allow_origin
page_at w AtPage visit = Page w.station.settings.web.allow_origin
