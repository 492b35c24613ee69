-- What the laws rest on.
use Rattle.std.proofs.Common.{◌≡◌, ℕ, Bool, true, false, List, [], ◌∷◌, ◌++◌, Some, codes, refl, ap, ◌∙◌, if◌then◌else◌}
use Rattle.std.specs.Option.{option_and_then, option_map}
use Rattle.std.specs.Prelude.{map, filter, not}
use Rattle.std.specs.Str.Lossy.{utf8_lossy}
use Rattle.serde_json.proofs.Views.{get_member-put_other}
use Rattle.serde_json.specs.Data.{Members}
use Rattle.serde_json.specs.Find.{as_str, get, get_member}
use Rattle.serde_json.specs.View.{items_of}
use Rattle.radio_listing.specs.declared.rows.AboutRow.{AboutRow}
use Rattle.radio_listing.specs.declared.rows.MountRow.{MountRow}
use Rattle.radio_listing.specs.declared.rows.PublicRow.{PublicRow}
use Rattle.radio_listing.specs.declared.rows.ListedServer.{ListedServer}
use Rattle.radio_listing.specs.Icecast.{bitrate_data, icecast_data, icecast_text, mount_members, one_or_list, server_members, source_data, with_about, with_bitrate, with_text}
use Rattle.radio_listing.specs.Json.{text}
use Rattle.radio_listing.specs.Laws.{LookAlike, mounts_named, names_of, not_hidden, shown_names, shown_urls, sources_in, urls_of, urls_told}
use Rattle.radio_listing.specs.Public.{public_data, rows_shown, status_data, status_text, stream_text}

pub alike : (rows others : List MountRow) → rows_shown rows ≡ rows_shown others → LookAlike rows others
unfolding status_text stream_text icecast_text
alike rows others same = record {
  status = rw same refl;
  streams = rw same refl;
  icecast = λ server. rw same refl;
}

named : (rows : List PublicRow) → names_of (items_of (map public_data rows)) ≡ map (λ (row : PublicRow). Some (utf8_lossy row.mount)) rows
named [] = refl
named (row ∷ rows) = ap (λ names. Some (utf8_lossy row.mount) ∷ names) (named rows)

pub status_names : (rows : List MountRow) → mounts_named (status_data rows) ≡ shown_names rows
status_names rows = ap (λ names. Some names) (named (rows_shown rows))

-- ---- where a mount is heard

text_aside : (q name bytes : List ℕ) (ms : Members) → (q ≡ name → ⊥) → get_member q (with_text name bytes ms) ≡ get_member q ms
text_aside q name [] ms other = refl
text_aside q name (b ∷ bytes) ms other = get_member-put_other q name (text (b ∷ bytes)) ms other

bitrate_aside : (q bytes : List ℕ) (ms : Members) → (q ≡ codes "bitrate" → ⊥) → get_member q (with_bitrate bytes ms) ≡ get_member q ms
bitrate_aside q [] ms other = refl
bitrate_aside q (b ∷ bytes) ms other = get_member-put_other q (codes "bitrate") (bitrate_data (b ∷ bytes)) ms other

url_in : (about : AboutRow) (ms : Members) → get_member (codes "listenurl") (with_about about ms) ≡ get_member (codes "listenurl") ms
url_in about ms =
    let described : Members = with_text (codes "server_description") about.description ms in
    let linked : Members = with_text (codes "server_url") about.url described in
    let rated : Members = with_bitrate about.bitrate linked in
    text_aside (codes "listenurl") (codes "audio_info") about.audio_info rated (λ e. cc)
    ∙ bitrate_aside (codes "listenurl") about.bitrate linked (λ e. cc)
    ∙ text_aside (codes "listenurl") (codes "server_url") about.url described (λ e. cc)
    ∙ text_aside (codes "listenurl") (codes "server_description") about.description ms (λ e. cc)

url_told : (base : List ℕ) (row : PublicRow) → option_and_then as_str (get (codes "listenurl") (source_data base row)) ≡ Some (utf8_lossy (base ++ row.mount))
url_told base row = ap (option_and_then as_str) (url_in row.about (mount_members base row))

listed : (base : List ℕ) (rows : List PublicRow)
    → urls_of (items_of (map (source_data base) rows)) ≡ map (λ (row : PublicRow). Some (utf8_lossy (base ++ row.mount))) rows
listed base [] = refl
listed base (row ∷ rows) = rw (url_told base row) (ap (λ urls. Some (utf8_lossy (base ++ row.mount)) ∷ urls) (listed base rows))

told : (base : List ℕ) (rows : List PublicRow)
    → urls_of (sources_in (one_or_list (map (source_data base) rows))) ≡ map (λ (row : PublicRow). Some (utf8_lossy (base ++ row.mount))) rows
told base [] = refl
told base (row ∷ []) = listed base (row ∷ [])
told base (row ∷ next ∷ rows) = listed base (row ∷ next ∷ rows)

pub icecast_urls : (server : ListedServer) (rows : List MountRow) → urls_told (icecast_data server rows) ≡ shown_urls server.base_url rows
icecast_urls server rows =
    ap (option_map (λ source. urls_of (sources_in source))) (text_aside (codes "source") (codes "server_start_iso8601") server.start (server_members server rows) (λ e. cc))
    ∙ ap (λ urls. Some urls) (told server.base_url (rows_shown rows))

shown_at : (row : MountRow) (b : Bool) (rows : List MountRow) (rest : List PublicRow) → rows_shown rows ≡ rest
    → (if b then rows_shown rows else row.public ∷ rows_shown rows) ≡ (if b then rest else row.public ∷ rest)
shown_at row true rows rest e = e
shown_at row false rows rest e = ap (λ r. row.public ∷ r) e

kept_at : (row : MountRow) (b : Bool) (rows : List MountRow)
    → (if b then map (λ (r : MountRow). r.public) rows else row.public ∷ map (λ (r : MountRow). r.public) rows)
    ≡ map (λ (r : MountRow). r.public) (if not b then row ∷ rows else rows)
kept_at row true rows = refl
kept_at row false rows = refl

pub shown_rows : (rows : List MountRow) → rows_shown rows ≡ not_hidden rows
shown_rows [] = refl
shown_rows (row ∷ rows) =
    shown_at row row.hidden rows (not_hidden rows) (shown_rows rows)
    ∙ kept_at row row.hidden (filter (λ (r : MountRow). not r.hidden) rows)
