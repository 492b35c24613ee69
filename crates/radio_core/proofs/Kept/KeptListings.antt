-- what is shown of the station, where streams are kept as far as a queue is long
use Rattle.std.proofs.Common.{◌≡◌, List, [], ◌∷◌, refl, ap}
use Rattle.radio_core.proofs.Words.{map, length, Listing, Status, Stats, Mounts, Clients, Streams, kept_live, kept_of, WebPath, Session, World}
use Rattle.radio_events.specs.declared.text.ReplyText.TheVariants.{Json, Streams as StreamList, Public}
use Rattle.radio_listing.specs.declared.rows.MountRow.{MountRow}
use Rattle.radio_listing.specs.Admin.{stats_text, mounts_text}
use Rattle.radio_listing.specs.Public.{status_text, stream_text}
use Rattle.radio_parts_facts.specs.Listings.{shown, row_of_session, mount_rows}
use Rattle.radio_parts_facts.specs.Pages.{page_at, server_as}
use Rattle.radio_settings_values.specs.declared.web.WebPath.TheVariants.{IcecastStatus, Page as AtPage}
use Rattle.radio_listing.specs.Icecast.{icecast_text}
use Rattle.radio_events.specs.declared.event.PageVisit.{PageVisit}

module _ (w : World) where
  rows_of : (live : List Session) → map (row_of_session (kept_of w)) (kept_live w.station.settings.limits.queue_size live) ≡ map (row_of_session w) live
  rows_of [] = refl
  rows_of (session ∷ live) = ap (λ (rows : List MountRow). row_of_session w session ∷ rows) (rows_of live)

  rows_kept : mount_rows (kept_of w) ≡ mount_rows w
  rows_kept = rows_of w.station.live

  -- it is the same
  pub shown_kept : (listing : Listing) → shown (kept_of w) listing ≡ shown w listing
  shown_kept Status = ap (λ (rows : List MountRow). Public (status_text rows) w.station.settings.web.allow_origin) rows_kept
  shown_kept Stats = ap (λ (rows : List MountRow). Json (stats_text (length w.station.clients) rows)) rows_kept
  shown_kept Mounts = ap (λ (rows : List MountRow). Json (mounts_text rows)) rows_kept
  shown_kept (Clients mount) = refl
  shown_kept Streams = ap (λ (rows : List MountRow). StreamList (stream_text rows)) rows_kept

  pub page_kept : (path : WebPath) (visit : PageVisit) → page_at (kept_of w) path visit ≡ page_at w path visit
  page_kept IcecastStatus visit =
      ap (λ (rows : List MountRow). Public (icecast_text (server_as w.station.settings visit) rows) w.station.settings.web.allow_origin) rows_kept
  page_kept AtPage visit = refl
