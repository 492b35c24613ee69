-- what everybody sees is what the public mounts show
use Rattle.std.proofs.Common.{◌≡◌, Bool, true, false, ℕ, ◌++◌, Option, Some, List, [], ◌∷◌, refl, ap, sym, ◌∙◌, if◌then◌else◌}
use Rattle.radio_laws.proofs.Words.{not, map, filter, length, flat_map, unwrap_or, options_for, ListedListener, CommandRequest, Listing, Status, Stats, Mounts, Clients, Streams, Event, Listen, Command, ListenRequest}
use Rattle.radio_laws.proofs.Words.{web_path, WebPath, IcecastStatus, IsShownBy, IsListing, IsAtPath, page_at, server_as, ReplyText, about_row, shown, row_of_session, mount_rows, public_row, Session, reply_to, World}
use Rattle.radio_laws.proofs.Words.{Seen, seen, is_public, public_live, seen_by_all, body_of, AreAnsweredAlike, AreVisitedAlike, SightIsKept, HiddenAreLeftOut, HiddenAreNotToldOnTheWeb}
use Rattle.std.specs.Str.Lossy.{utf8_lossy}
use Rattle.radio_listing.specs.declared.rows.MountRow.{MountRow}
use Rattle.radio_listing.specs.declared.rows.PublicRow.{PublicRow}
use Rattle.radio_listing.specs.Admin.{stats_text, mounts_text}
use Rattle.radio_listing.specs.Laws.{LookAlike, mounts_named, shown_names, shown_urls, urls_told}
use Rattle.radio_listing.specs.Listeners.{listeners_text}
use Rattle.radio_listing.specs.Public.{rows_shown, status_data, stream_line, stream_text}
use Rattle.radio_events.specs.declared.command.Asked.TheVariants.{Listing as AsksFor}
use Rattle.radio_listing.specs.declared.rows.ListedServer.{ListedServer}
use Rattle.radio_listing.specs.Icecast.{icecast_data, icecast_text}
use Rattle.radio_events.specs.declared.reply.Reply.TheVariants.{Text as SaysText}
use Rattle.radio_events.specs.declared.text.ReplyText.TheVariants.{Streams as StreamList}
use Rattle.radio_laws.proofs.Denials.GrantedLemmas.{IsToldFor, ByShowing, ByDoing}
use Rattle.radio_laws.proofs.Listings.ToldTexts.{told_for}
use Rattle.radio_laws.proofs.Listings.WebLaws.{is_on}

-- a request for a listing that is answered by a text is answered by the listing
module _ (w : World) (asked : CommandRequest) (listing : Listing) (text : ReplyText) (is : asked.asked ≡ AsksFor listing) where
  shown_so : (event : Event) (told : ReplyText) → IsShownBy w event told → event ≡ Command asked → shown w listing ≡ told
  shown_so event told (IsListing other c) e =
      let one : Command c.asked ≡ Command asked = sym c.is_event ∙ e in
      let same : c.asked ≡ asked = cc in
      let both : AsksFor other ≡ AsksFor listing = sym c.is_asked ∙ ap (λ (a : CommandRequest). a.asked) same ∙ is in
      let it : other ≡ listing = cc in
      ap (shown w) (sym it)
  shown_so event told (IsAtPath request path is_event on) e = let other = sym is_event ∙ e in cc

  is_told : reply_to w (Command asked) ≡ SaysText text → shown w listing ≡ text
  is_told d = by_cause (told_for w (Command asked) text d) where
    by_cause : IsToldFor w (Command asked) text → shown w listing ≡ text
    by_cause (ByShowing asker peer its undecided what) = shown_so (Command asked) text what refl
    by_cause (ByDoing command c said) =
        let one : Command c.asked ≡ Command asked = sym c.is_event in
        let same : c.asked ≡ asked = cc in
        let other = sym c.is_asked ∙ ap (λ (a : CommandRequest). a.asked) same ∙ is in
        cc

-- and one for a path of the web site by what is there
module _ (w : World) (asked : ListenRequest) (path : WebPath) (text : ReplyText) (on : web_path w.station.settings.web asked.mount ≡ Some path) where
  page_so : (event : Event) (told : ReplyText) → IsShownBy w event told → event ≡ Listen asked → page_at w path asked.visit ≡ told
  page_so event told (IsListing other c) e = let other = sym c.is_event ∙ e in cc
  page_so event told (IsAtPath request there is_event is_on) e =
      let one : Listen request ≡ Listen asked = sym is_event ∙ e in
      let same : request ≡ asked = cc in
      let both : Some there ≡ Some path = sym is_on ∙ ap (λ (r : ListenRequest). web_path w.station.settings.web r.mount) same ∙ on in
      let it : there ≡ path = cc in
      ap (λ (p : WebPath). page_at w p asked.visit) (sym it) ∙ ap (λ (r : ListenRequest). page_at w there r.visit) (sym same)

  is_visited : reply_to w (Listen asked) ≡ SaysText text → page_at w path asked.visit ≡ text
  is_visited d = by_cause (told_for w (Listen asked) text d) where
    by_cause : IsToldFor w (Listen asked) text → page_at w path asked.visit ≡ text
    by_cause (ByShowing asker peer its undecided what) = page_so (Listen asked) text what refl
    by_cause (ByDoing command c said) = let other = sym c.is_event in cc

answered : (w v : World) (listing : Listing) → body_of (shown w listing) ≡ body_of (shown v listing) → AreAnsweredAlike w v listing
answered w v listing same asked other text said is its d e =
    ap body_of (sym (is_told w asked listing text is d)) ∙ same ∙ ap body_of (is_told v other listing said its e)

-- the row that everybody may see
abbrev row_seen : Seen → PublicRow
row_seen seen = record {
  mount = seen.mount;
  name = seen.shown.name;
  genre = seen.shown.genre;
  content_type = seen.shown.content_type;
  title = unwrap_or seen.title [];
  listeners = seen.listeners;
  about = about_row seen.shown.about;
}

module _ (w : World) where
  shown_at : (hidden : Bool) (session : Session) (live public : List Session) → rows_shown (map (row_of_session w) live) ≡ map row_seen (map (seen w) public)
      → (if hidden then rows_shown (map (row_of_session w) live) else public_row w session ∷ rows_shown (map (row_of_session w) live))
      ≡ map row_seen (map (seen w) (if not hidden then session ∷ public else public))
  shown_at true session live public e = e
  shown_at false session live public e = ap (λ (rows : List PublicRow). public_row w session ∷ rows) e

  shown_rows : (live : List Session) → rows_shown (map (row_of_session w) live) ≡ map row_seen (map (seen w) (filter (is_public w) live))
  shown_rows [] = refl
  shown_rows (session ∷ live) =
      shown_at (options_for w.station.settings session.mount).stream.hidden session live (filter (is_public w) live) (shown_rows live)

  abbrev name_shown : Session → Option (List ℕ)
  name_shown session = Some (utf8_lossy session.mount)

  names : (live : List Session) → map (λ (row : PublicRow). Some (utf8_lossy row.mount)) (map row_seen (map (seen w) live)) ≡ map name_shown live
  names [] = refl
  names (session ∷ live) = ap (λ (all : List (Option (List ℕ))). name_shown session ∷ all) (names live)

  heard_at : (base : List ℕ) (live : List Session) → map (λ (row : PublicRow). Some (utf8_lossy (base ++ row.mount))) (map row_seen (map (seen w) live))
      ≡ map (λ (session : Session). Some (utf8_lossy (base ++ session.mount))) live
  heard_at base [] = refl
  heard_at base (session ∷ live) = ap (λ (all : List (Option (List ℕ))). Some (utf8_lossy (base ++ session.mount)) ∷ all) (heard_at base live)

  lines : (live : List Session) → flat_map stream_line (map row_seen (map (seen w) live)) ≡ flat_map (λ (session : Session). session.mount ++ 13 ∷ 10 ∷ []) live
  lines [] = refl
  lines (session ∷ live) = ap (λ (rest : List ℕ). (session.mount ++ 13 ∷ 10 ∷ []) ++ rest) (lines live)

  all_lines : stream_text (mount_rows w) ≡ flat_map (λ (session : Session). session.mount ++ 13 ∷ 10 ∷ []) (public_live w)
  unfolding stream_text
  all_lines = ap (flat_map stream_line) (shown_rows w.station.live) ∙ lines (public_live w)

  module _ (named : (rows : List MountRow) → mounts_named (status_data rows) ≡ shown_names rows) where
    pub hidden_are_left_out : HiddenAreLeftOut w
    hidden_are_left_out asked text d = record {
      status = λ is. (
        mount_rows w,
        sym (is_told w asked Status text is d),
        named (mount_rows w)
            ∙ ap (λ (rows : List PublicRow). Some (map (λ (row : PublicRow). Some (utf8_lossy row.mount)) rows)) (shown_rows w.station.live)
            ∙ ap (λ (all : List (Option (List ℕ))). Some all) (names (public_live w)),
      );
      streams = λ is. sym (is_told w asked Streams text is d) ∙ ap (λ (bytes : List ℕ). StreamList bytes) all_lines;
    }

  module _ (urls : (server : ListedServer) (rows : List MountRow) → urls_told (icecast_data server rows) ≡ shown_urls server.base_url rows) where
    pub hidden_are_not_told_on_the_web : HiddenAreNotToldOnTheWeb w
    hidden_are_not_told_on_the_web asked text is d =
        let server = server_as w.station.settings asked.visit in (
          server,
          mount_rows w,
          sym (is_visited w asked IcecastStatus text (is_on w asked.mount IcecastStatus is) d),
          urls server (mount_rows w)
              ∙ ap (λ (rows : List PublicRow). Some (map (λ (row : PublicRow). Some (utf8_lossy (server.base_url ++ row.mount))) rows)) (shown_rows w.station.live)
              ∙ ap (λ (all : List (Option (List ℕ))). Some all) (heard_at server.base_url (public_live w)),
        )

module _ (alike : (rows others : List MountRow) → rows_shown rows ≡ rows_shown others → LookAlike rows others) (w v : World) where
  look_alike : seen_by_all w ≡ seen_by_all v → LookAlike (mount_rows w) (mount_rows v)
  look_alike same = alike (mount_rows w) (mount_rows v) (shown_rows w w.station.live ∙ ap (map row_seen) same ∙ sym (shown_rows v v.station.live))

  visited_alike : seen_by_all w ≡ seen_by_all v → AreVisitedAlike w v
  visited_alike same asked other text said is its visit url address port d e =
      let there = is_on w asked.mount IcecastStatus is in
      let server : server_as w.station.settings asked.visit ≡ server_as v.station.settings other.visit = rw (visit, url, address, port) refl in
      ap body_of (sym (is_visited w asked IcecastStatus text there d))
      ∙ (look_alike same).icecast (server_as w.station.settings asked.visit)
      ∙ ap (λ (s : ListedServer). icecast_text s (mount_rows v)) server
      ∙ ap body_of (is_visited v other IcecastStatus said (is_on v other.mount IcecastStatus its) e)

  pub sight_is_kept : SightIsKept w v
  sight_is_kept = record {
    status = λ same. answered w v Status (look_alike same).status;
    icecast = visited_alike;
    streams = λ same. answered w v Streams (look_alike same).streams;
    stats = λ rows count. answered w v Stats
        (ap (λ (n : ℕ). stats_text n (mount_rows w)) count ∙ ap (λ (all : List MountRow). stats_text (length v.station.clients) all) rows);
    mounts = λ rows. answered w v Mounts (ap (λ (all : List MountRow). mounts_text all) rows);
    listeners = λ mount rows. answered w v (Clients mount) (ap (λ (all : List ListedListener). listeners_text mount all) rows);
  }
