-- What of the station a client is shown, and to which clients.
use Rattle.std.specs.Prelude.{◌≡◌, ◌⊎◌, true, codes, ◌↔◌, ◌≤◌, ◌<◌, ℕ, ◌+◌, ◌-◌, ◌*◌, Bool, not, List, [], ◌∷◌, ◌++◌, length, map, filter, flat_map, Option, Some, None, unwrap_or}
use Rattle.std.specs.Str.Lossy.{utf8_lossy}
use Rattle.radio_addr.specs.declared.peer.Peer.{Peer}
use Rattle.radio_creds.specs.Credentials.{Credentials}
use Rattle.radio_values.specs.declared.field.Shown.{Shown}
use Rattle.radio_settings_values.specs.declared.web.WebPath.{WebPath}
use Rattle.radio_settings_values.specs.declared.web.WebPath.TheVariants.{IcecastStatus, Page as AtPage}
use Rattle.radio_settings_values.specs.Options.{options_for}
use Rattle.radio_seats_rows.specs.declared.seat.Seat.{Seat}
use Rattle.radio_seats_rows.specs.declared.seat.Listener.{Listener}
use Rattle.radio_seats_rows.specs.declared.seat.Seating.TheVariants.{Sits}
use Rattle.radio_seats_rows.specs.Seats.{seats_at, count_at}
use Rattle.radio_listing.specs.declared.rows.MountRow.{MountRow}
use Rattle.radio_listing.specs.declared.rows.ListedServer.{ListedServer}
use Rattle.radio_listing.specs.Icecast.{icecast_data, icecast_text}
use Rattle.radio_listing.specs.Reached.{base_url}
use Rattle.radio_listing.specs.declared.rows.ListedListener.{ListedListener}
use Rattle.radio_listing.specs.Admin.{stats_text, mounts_text}
use Rattle.radio_listing.specs.Laws.{mounts_named, urls_told}
use Rattle.radio_listing.specs.Listeners.{listeners_text}
use Rattle.radio_listing.specs.Public.{status_data, status_text, stream_text}
use Rattle.radio_events.specs.declared.command.Asked.TheVariants.{Listing as AsksFor}
use Rattle.radio_events.specs.declared.command.CommandRequest.{CommandRequest}
use Rattle.radio_events.specs.declared.command.Listing.{Listing}
use Rattle.radio_events.specs.declared.command.Listing.TheVariants.{Status, Stats, Mounts, Clients, Streams}
use Rattle.radio_events.specs.declared.event.Event.{Event}
use Rattle.radio_events.specs.declared.event.Event.TheVariants.{Source, Listen, Command}
use Rattle.radio_events.specs.declared.event.SourceRequest.{SourceRequest}
use Rattle.radio_events.specs.declared.event.ListenRequest.{ListenRequest}
use Rattle.radio_events.specs.declared.event.PageVisit.{PageVisit}
use Rattle.radio_events.specs.declared.reply.Reply.TheVariants.{Text as SaysText, Deny}
use Rattle.radio_policy.specs.declared.rule.Rule.TheVariants.{BadMount}
use Rattle.radio_events.specs.declared.text.ReplyText.{ReplyText}
use Rattle.radio_events.specs.declared.text.ReplyText.TheVariants.{Done, Moved, Ended, Json, Streams as StreamList, Public, Page}
use Rattle.radio_events.specs.Texts.{IsShort}
use Rattle.radio_parts_station.specs.declared.standing.Standing.TheVariants.{Undecided, Answered}
use Rattle.radio_parts_facts.specs.Listings.{about_row, mount_rows, listener_rows}
use Rattle.radio_parts_mount.specs.Sessions.{Session}
use Rattle.radio_parts.specs.Step.{reply_to, world_after}
use Rattle.radio_parts_station.specs.World.{World, standing_of}
use Rattle.radio_laws.specs.Commanded.{IsTheAdmins, IsLive}
use Rattle.radio_laws.specs.Walks.{FallsBack}

-- the user and the password of relays, byte for byte, if they have a password
pub record IsTheRelays (w : World) (pair : Credentials) : Type 0 where
  pub user : pair.user ≡ w.station.settings.access.relays.username
  pub password : w.station.settings.access.relays.password ≡ Some pair.password

-- everybody may see the status, a relay the list of streams, and the admin all
-- rule: Who may see
pub data MaySee (w : World) : Listing → Option Credentials → Type 0 where
  AsAnybody : (pair : Option Credentials) → MaySee w Status pair
  AsARelay : (pair : Credentials) → IsTheRelays w pair → MaySee w Streams (Some pair)
  AsTheAdmin : (listing : Listing) (pair : Credentials) → IsTheAdmins w pair → MaySee w listing (Some pair)

-- to list the listeners of a mount, it must be live
abbrev pub IsThereToSee : World → Listing → Type 0
IsThereToSee w (Clients mount) = IsLive w mount
IsThereToSee w listing = Unit {0}

-- what a row says of the mount of a session
pub record TellsOf (w : World) (fed : Session) (row : MountRow) : Type 0 where
  pub mount : row.public.mount ≡ fed.mount
  pub name : row.public.name ≡ fed.shown.name
  pub genre : row.public.genre ≡ fed.shown.genre
  pub content_type : row.public.content_type ≡ fed.shown.content_type
  pub title : row.public.title ≡ unwrap_or fed.title []
  pub listeners : row.public.listeners ≡ count_at w.seats fed.mount
  pub about : row.public.about ≡ about_row fed.shown.about
  pub hidden : row.hidden ≡ (options_for w.station.settings fed.mount).stream.hidden
  pub session : row.session ≡ fed.number
  pub fallback : (next : List ℕ) → FallsBack w fed.mount next ↔ (row.fallback ≡ Some next)

-- rows describe the mounts of these sessions, one of each, in their order
abbrev pub TellOf : World → List Session → List MountRow → Type 0
TellOf w [] [] = Unit {0}
TellOf w (fed ∷ live) (row ∷ rows) = TellsOf w fed row × TellOf w live rows
TellOf w [] (row ∷ rows) = ⊥
TellOf w (fed ∷ live) [] = ⊥

-- what a row says of a listener with a seat: the user that it sent, and never its password
pub record TellsOfListener (w : World) (listener : Listener) (row : ListedListener) : Type 0 where
  pub id : row.id ≡ listener.id
  pub seat : Seat
  pub sits : listener.seating ≡ Sits seat
  pub home : row.home ≡ seat.home
  pub peer : row.peer ≡ seat.peer
  -- whole seconds since it was seated
  pub seconds_past : row.seconds * 1000 ≤ w.station.time - seat.since
  pub no_more : w.station.time - seat.since < (row.seconds + 1) * 1000
  pub user : (pair : Credentials) → seat.pair ≡ Some pair → row.user ≡ Some pair.user
  pub nobody : seat.pair ≡ None → row.user ≡ None

-- rows describe these listeners, one of each, in their order
abbrev pub TellOfListeners : World → List Listener → List ListedListener → Type 0
TellOfListeners w [] [] = Unit {0}
TellOfListeners w (listener ∷ them) (row ∷ rows) = TellsOfListener w listener row × TellOfListeners w them rows
TellOfListeners w [] (row ∷ rows) = ⊥
TellOfListeners w (listener ∷ them) [] = ⊥

-- the text says what is there; the client that asks is counted among the clients
-- rule: Who may see; Waiting is not live
abbrev pub Tells : World → Listing → ReplyText → Type 0
Tells w Status text =
    (rows : List MountRow) × TellOf w w.station.live rows × (text ≡ Public (status_text rows) w.station.settings.web.allow_origin)
Tells w Stats text = (rows : List MountRow) × TellOf w w.station.live rows × (text ≡ Json (stats_text (length w.station.clients) rows))
Tells w Mounts text = (rows : List MountRow) × TellOf w w.station.live rows × (text ≡ Json (mounts_text rows))
Tells w (Clients mount) text = (rows : List ListedListener) × TellOfListeners w (seats_at w.seats mount) rows × (text ≡ Json (listeners_text mount rows))
Tells w Streams text = (rows : List MountRow) × TellOf w w.station.live rows × (text ≡ StreamList (stream_text rows))

-- a listing is shown to a client that may see it, if what it needs is there. The client is answered then.
-- The listing shows the present state, and nothing else changes
pub record IsShownByRight (w : World) (event : Event) (text : ReplyText) : Type 0 where
  pub asked : CommandRequest
  pub is_event : event ≡ Command asked
  pub listing : Listing
  pub is_asked : asked.asked ≡ AsksFor listing
  pub may : MaySee w listing asked.pair
  pub there : IsThereToSee w listing
  pub tells : Tells w listing text
  pub answered : standing_of (world_after w event) asked.id ≡ Answered
  pub sessions : (world_after w event).station.live ≡ w.station.live
  pub seats : (world_after w event).seats ≡ w.seats

-- the path is one of the web site's, and the settings put it on
-- rule: Web page
pub data IsPath (w : World) (path : List ℕ) : WebPath → Type 0 where
  StatusIsOn : path ≡ codes "/status-json.xsl" → w.station.settings.web.icecast_status ≡ true → IsPath w path IcecastStatus
  PageIsOn : path ≡ codes "/" → w.station.settings.web.page ≡ true → IsPath w path AtPage

-- the text shows the present state in Icecast's words on this visit. It has the public URL of the settings, or else the host that the
-- client names for the server. It has the moment at which the server started, if the program gives one
pub record TellsAsIcecast (w : World) (visit : PageVisit) (text : ReplyText) : Type 0 where
  pub rows : List MountRow
  pub of_the_live : TellOf w w.station.live rows
  pub server : ListedServer
  pub name : server.name ≡ codes "radiod"
  pub base : server.base_url
      ≡ unwrap_or w.station.settings.web.public_url (base_url visit.host w.station.settings.listen.address w.station.settings.listen.port)
  pub start : server.start ≡ unwrap_or visit.server_start []
  pub says : text ≡ Public (icecast_text server rows) w.station.settings.web.allow_origin

-- rule: Web page
abbrev pub TellsAt : World → WebPath → PageVisit → ReplyText → Type 0
TellsAt w IcecastStatus visit text = TellsAsIcecast w visit text
TellsAt w AtPage visit text = text ≡ Page w.station.settings.web.allow_origin

-- a client that asks for a path of the web site sees what is there. The client is answered then, and nothing else changes
pub record IsShownAtPath (w : World) (event : Event) (text : ReplyText) : Type 0 where
  pub asked : ListenRequest
  pub is_event : event ≡ Listen asked
  pub path : WebPath
  pub is_path : IsPath w asked.mount path
  pub tells : TellsAt w path asked.visit text
  pub answered : standing_of (world_after w event) asked.id ≡ Answered
  pub sessions : (world_after w event).station.live ≡ w.station.live
  pub seats : (world_after w event).seats ≡ w.seats

-- what is no short text is a listing, or is at a path of the web site
abbrev pub OnlyWhoMayIsShown : World → Event → Type 0
OnlyWhoMayIsShown w event =
    (text : ReplyText) → reply_to w event ≡ SaysText text → (IsShort text → ⊥) → IsShownByRight w event text ⊎ IsShownAtPath w event text

-- a client that has asked for nothing yet, and may see the listing, is shown it if what the listing needs is there
abbrev pub WhoMayIsShown : World → Type 0
WhoMayIsShown w = (asked : CommandRequest) (peer : Peer) (listing : Listing) → standing_of w asked.id ≡ Undecided peer → asked.asked ≡ AsksFor listing
    → MaySee w listing asked.pair → IsThereToSee w listing → (text : ReplyText) × (reply_to w (Command asked) ≡ SaysText text) × Tells w listing text

-- a client that has asked for nothing yet, and asks for a path of the web site, is shown what is there
-- rule: Web page
abbrev pub WhoVisitsIsShown : World → Type 0
WhoVisitsIsShown w = (asked : ListenRequest) (peer : Peer) (path : WebPath) → standing_of w asked.id ≡ Undecided peer → IsPath w asked.mount path
    → (text : ReplyText) × (reply_to w (Listen asked) ≡ SaysText text) × TellsAt w path asked.visit text

-- and nobody feeds a mount of that name
-- rule: Paths of the web site
abbrev pub NobodyFeedsAPath : World → Type 0
NobodyFeedsAPath w = (asked : SourceRequest) (peer : Peer) (path : WebPath) → standing_of w asked.id ≡ Undecided peer → IsPath w asked.mount path
    → reply_to w (Source asked) ≡ Deny BadMount

-- what everybody may see of a live mount
pub record Seen : Type 0 where
  pub mount : List ℕ
  pub shown : Shown
  pub title : Option (List ℕ)
  pub listeners : ℕ

abbrev pub seen : World → Session → Seen
seen w session = record { mount = session.mount; shown = session.shown; title = session.title; listeners = count_at w.seats session.mount }

abbrev pub is_public : World → Session → Bool
is_public w session = not (options_for w.station.settings session.mount).stream.hidden

-- the sessions of the live mounts that are not hidden
abbrev pub public_live : World → List Session
public_live w = filter (is_public w) w.station.live

-- what everybody may see
abbrev pub seen_by_all : World → List Seen
seen_by_all w = map (seen w) (public_live w)

-- the bytes of a listing, without the headers that go before them
abbrev pub body_of : ReplyText → List ℕ
body_of (Json bytes) = bytes
body_of (StreamList bytes) = bytes
body_of (Public bytes origin) = bytes
body_of (Page origin) = []
body_of Done = []
body_of (Moved count) = []
body_of (Ended count) = []

-- in two states the two requests are answered by the same bytes
abbrev pub AreAnsweredAlike : World → World → Listing → Type 0
AreAnsweredAlike w v listing = (asked other : CommandRequest) (text said : ReplyText) → asked.asked ≡ AsksFor listing → other.asked ≡ AsksFor listing
    → reply_to w (Command asked) ≡ SaysText text → reply_to v (Command other) ≡ SaysText said → body_of text ≡ body_of said

-- clients that ask for Icecast's status on equal visits get the same bytes in two states of servers with one address and one public URL
abbrev pub AreVisitedAlike : World → World → Type 0
AreVisitedAlike w v = (asked other : ListenRequest) (text said : ReplyText) → IsPath w asked.mount IcecastStatus → IsPath v other.mount IcecastStatus → asked.visit ≡ other.visit
    → w.station.settings.web.public_url ≡ v.station.settings.web.public_url → w.station.settings.listen.address ≡ v.station.settings.listen.address → w.station.settings.listen.port ≡ v.station.settings.listen.port
    → reply_to w (Listen asked) ≡ SaysText text → reply_to v (Listen other) ≡ SaysText said → body_of text ≡ body_of said

-- two states that agree on what everybody may see of the live mounts show everybody and every relay the same bytes, whatever else they hold.
-- Those with equal rows for a viewer show it the same
-- rule: Hidden mounts
pub record SightIsKept (w v : World) : Type 0 where
  pub status : seen_by_all w ≡ seen_by_all v → AreAnsweredAlike w v Status
  pub icecast : seen_by_all w ≡ seen_by_all v → AreVisitedAlike w v
  pub streams : seen_by_all w ≡ seen_by_all v → AreAnsweredAlike w v Streams
  pub stats : mount_rows w ≡ mount_rows v → length w.station.clients ≡ length v.station.clients → AreAnsweredAlike w v Stats
  pub mounts : mount_rows w ≡ mount_rows v → AreAnsweredAlike w v Mounts
  pub listeners : (mount : List ℕ) → listener_rows w mount ≡ listener_rows v mount → AreAnsweredAlike w v (Clients mount)

-- no hidden mount is in the status or in the list of streams: they name the live mounts that are not hidden, in their order
-- rule: Hidden mounts
pub record NoHiddenIsNamed (w : World) (asked : CommandRequest) (text : ReplyText) : Type 0 where
  pub status : asked.asked ≡ AsksFor Status → (rows : List MountRow) × (text ≡ Public (status_text rows) w.station.settings.web.allow_origin)
      × (mounts_named (status_data rows) ≡ Some (map (λ (session : Session). Some (utf8_lossy session.mount)) (public_live w)))
  pub streams : asked.asked ≡ AsksFor Streams → text ≡ StreamList (flat_map (λ session. session.mount ++ 13 ∷ 10 ∷ []) (public_live w))

abbrev pub HiddenAreLeftOut : World → Type 0
HiddenAreLeftOut w = (asked : CommandRequest) (text : ReplyText) → reply_to w (Command asked) ≡ SaysText text → NoHiddenIsNamed w asked text

-- nor in Icecast's words, which give the URLs of those mounts
-- rule: Paths of the web site
abbrev pub HiddenAreNotToldOnTheWeb : World → Type 0
HiddenAreNotToldOnTheWeb w = (asked : ListenRequest) (text : ReplyText) → IsPath w asked.mount IcecastStatus → reply_to w (Listen asked) ≡ SaysText text
    → (server : ListedServer) × (rows : List MountRow) × (text ≡ Public (icecast_text server rows) w.station.settings.web.allow_origin)
    × (urls_told (icecast_data server rows)
    ≡ Some (map (λ (session : Session). Some (utf8_lossy (server.base_url ++ session.mount))) (public_live w)))
