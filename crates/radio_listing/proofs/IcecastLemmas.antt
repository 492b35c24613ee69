use Rattle.std.proofs.Common.{◌≡◌, ◌≤◌, ℕ, false, List, [], ◌∷◌, Option, None, Some, refl, arith, lit≤}
use Rattle.std.specs.Prelude.{map, codes}
use Rattle.std.specs.Option.{option_map_or}
use Rattle.serde_json.specs.Data.{Members, depth, members_depth}
use Rattle.serde_json.specs.Read.{max_depth}
use Rattle.serde_json.specs.Written.{has_float, members_have_float}
use Rattle.radio_listing.specs.declared.rows.AboutRow.{AboutRow}
use Rattle.radio_listing.specs.declared.rows.MountRow.{MountRow}
use Rattle.radio_listing.specs.declared.rows.PublicRow.{PublicRow}
use Rattle.radio_listing.specs.declared.rows.ListedServer.{ListedServer}
use Rattle.radio_listing.specs.Icecast.{bitrate_data, icecast_data, mount_members, number_written, one_or_list, server_members, source_data, with_about, with_bitrate, with_text}
use Rattle.radio_listing.specs.Json.{count, text}
use Rattle.radio_listing.specs.Public.{rows_shown}
use Rattle.radio_listing.proofs.JsonLemmas.{no_floats, no_deeper, put_no_deeper, put_quiet}

-- ---- what a stream says of itself

text_quiet : (name bytes : List ℕ) (ms : Members) → members_have_float ms ≡ false → members_have_float (with_text name bytes ms) ≡ false
text_quiet name [] ms quiet = quiet
text_quiet name (b ∷ bytes) ms quiet = put_quiet name (text (b ∷ bytes)) ms refl quiet

bitrate_is_quiet : (number : Option ℕ) (bytes : List ℕ) → has_float (option_map_or count number (text bytes)) ≡ false
bitrate_is_quiet None bytes = refl
bitrate_is_quiet (Some n) bytes = refl

bitrate_quiet : (bytes : List ℕ) (ms : Members) → members_have_float ms ≡ false → members_have_float (with_bitrate bytes ms) ≡ false
bitrate_quiet [] ms quiet = quiet
bitrate_quiet (b ∷ bytes) ms quiet =
    put_quiet (codes "bitrate") (bitrate_data (b ∷ bytes)) ms (bitrate_is_quiet (number_written (b ∷ bytes)) (b ∷ bytes)) quiet

about_quiet : (about : AboutRow) (ms : Members) → members_have_float ms ≡ false → members_have_float (with_about about ms) ≡ false
about_quiet about ms quiet =
    text_quiet (codes "audio_info") about.audio_info _
    (bitrate_quiet about.bitrate _
    (text_quiet (codes "server_url") about.url _
    (text_quiet (codes "server_description") about.description ms quiet)))

text_no_deeper : (name bytes : List ℕ) (ms : Members) (n : ℕ) → members_depth ms ≤ n → members_depth (with_text name bytes ms) ≤ n
text_no_deeper name [] ms n shallow = shallow
text_no_deeper name (b ∷ bytes) ms n shallow = put_no_deeper name (text (b ∷ bytes)) ms n (omega arith) shallow

bitrate_is_flat : (number : Option ℕ) (bytes : List ℕ) → depth (option_map_or count number (text bytes)) ≤ 0
bitrate_is_flat None bytes = lit≤ tt
bitrate_is_flat (Some n) bytes = lit≤ tt

bitrate_no_deeper : (bytes : List ℕ) (ms : Members) (n : ℕ) → members_depth ms ≤ n → members_depth (with_bitrate bytes ms) ≤ n
bitrate_no_deeper [] ms n shallow = shallow
bitrate_no_deeper (b ∷ bytes) ms n shallow =
    put_no_deeper (codes "bitrate") (bitrate_data (b ∷ bytes)) ms n
    (omega (arith, bitrate_is_flat (number_written (b ∷ bytes)) (b ∷ bytes))) shallow

about_no_deeper : (about : AboutRow) (ms : Members) (n : ℕ) → members_depth ms ≤ n → members_depth (with_about about ms) ≤ n
about_no_deeper about ms n shallow =
    text_no_deeper (codes "audio_info") about.audio_info _ n
    (bitrate_no_deeper about.bitrate _ n
    (text_no_deeper (codes "server_url") about.url _ n
    (text_no_deeper (codes "server_description") about.description ms n shallow)))

-- ---- the sources

source_quiet : (base : List ℕ) (row : PublicRow) → has_float (source_data base row) ≡ false
source_quiet base row = about_quiet row.about (mount_members base row) refl

source_shallow : (base : List ℕ) (row : PublicRow) → depth (source_data base row) ≤ 1
source_shallow base row = omega (arith, about_no_deeper row.about (mount_members base row) 0 (lit≤ tt))

sources_quiet : (base : List ℕ) (rows : List PublicRow) → has_float (one_or_list (map (source_data base) rows)) ≡ false
sources_quiet base [] = refl
sources_quiet base (row ∷ []) = source_quiet base row
sources_quiet base (row ∷ next ∷ rows) = no_floats (source_data base) (source_quiet base) (row ∷ next ∷ rows)

sources_shallow : (base : List ℕ) (rows : List PublicRow) → depth (one_or_list (map (source_data base) rows)) ≤ 3
sources_shallow base [] = lit≤ tt
sources_shallow base (row ∷ []) = omega (arith, source_shallow base row)
sources_shallow base (row ∷ next ∷ rows) = omega (arith, no_deeper (source_data base) 1 (source_shallow base) (row ∷ next ∷ rows))

-- ---- the whole

members_quiet : (server : ListedServer) (rows : List MountRow) → members_have_float (server_members server rows) ≡ false
members_quiet server rows = rw (sources_quiet server.base_url (rows_shown rows)) refl

told_quiet : (server : ListedServer) (rows : List MountRow)
    → members_have_float (with_text (codes "server_start_iso8601") server.start (server_members server rows)) ≡ false
told_quiet server rows = text_quiet (codes "server_start_iso8601") server.start (server_members server rows) (members_quiet server rows)

pub icecast_quiet : (server : ListedServer) (rows : List MountRow) → has_float (icecast_data server rows) ≡ false
icecast_quiet server rows = rw (told_quiet server rows) refl

members_shallow : (server : ListedServer) (rows : List MountRow) → members_depth (server_members server rows) ≤ 3
members_shallow server rows = omega (arith, sources_shallow server.base_url (rows_shown rows))

pub icecast_shallow : (server : ListedServer) (rows : List MountRow) → depth (icecast_data server rows) ≤ max_depth
icecast_shallow server rows =
    omega (
      arith,
      text_no_deeper (codes "server_start_iso8601") server.start (server_members server rows) 3 (members_shallow server rows),
    )
