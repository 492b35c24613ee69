-- What Icecast 2.4 answers at `/status-json.xsl`.
use Rattle.std.specs.Prelude.{ℕ, List, [], ◌∷◌, ◌++◌, map, codes, decimal, Option, None, Some, if◌then◌else◌}
use Rattle.std.specs.Option.{option_and_then, option_map_or}
use Rattle.std.specs.Str.{bytes_eq}
use Rattle.serde_json.specs.Data.{Data, Members, object, put}
use Rattle.serde_json.specs.Written.{compact_text}
use Rattle.radio_texts.specs.Numbers.{number_of}
use Rattle.radio_listing.specs.declared.rows.AboutRow.{AboutRow}
use Rattle.radio_listing.specs.declared.rows.ListedServer.{ListedServer}
use Rattle.radio_listing.specs.declared.rows.MountRow.{MountRow}
use Rattle.radio_listing.specs.declared.rows.PublicRow.{PublicRow}
use Rattle.radio_listing.specs.Json.{text, count, list, fields, members}
use Rattle.radio_listing.specs.Public.{rows_shown}

-- the members, with this text among them if it is not empty
abbrev pub with_text : List ℕ → List ℕ → Members → Members
with_text name [] ms = ms
with_text name (b ∷ bytes) ms = put name (text (b ∷ bytes)) ms

-- the greatest bit rate that is written as a number
abbrev pub max_bitrate : ℕ
max_bitrate = 4294967295

-- the number that is written so: with no sign, and no zero in front
abbrev pub number_written : List ℕ → Option ℕ
number_written bytes = option_and_then (λ n. if bytes_eq (decimal n) bytes then Some n else None) (number_of 10 max_bitrate bytes)

-- a bit rate: a number if it is written as one, else a text
abbrev pub bitrate_data : List ℕ → Data
bitrate_data bytes = option_map_or count (number_written bytes) (text bytes)

-- the members, with the bit rate among them if it is not empty
abbrev pub with_bitrate : List ℕ → Members → Members
with_bitrate [] ms = ms
with_bitrate (b ∷ bytes) ms = put (codes "bitrate") (bitrate_data (b ∷ bytes)) ms

-- the members, with what else a stream says of itself among them
-- rule: Icecast status
abbrev pub with_about : AboutRow → Members → Members
with_about about ms =
    with_text (codes "audio_info") about.audio_info
    (with_bitrate about.bitrate
    (with_text (codes "server_url") about.url
    (with_text (codes "server_description") about.description ms)))

-- what is said of each mount, at a server of this base URL
abbrev pub mount_members : List ℕ → PublicRow → Members
mount_members base row = members (
    (codes "genre", text row.genre)
    ∷ (codes "listeners", count row.listeners)
    ∷ (codes "listenurl", text (base ++ row.mount))
    ∷ (codes "server_name", text row.name)
    ∷ (codes "server_type", text row.content_type)
    ∷ (codes "title", text row.title)
    ∷ [])

-- a mount as everybody sees it
abbrev pub source_data : List ℕ → PublicRow → Data
source_data base row = object (with_about row.about (mount_members base row))

-- one value alone, and none or several as a list
abbrev pub one_or_list : List Data → Data
one_or_list [] = list []
one_or_list (value ∷ []) = value
one_or_list (value ∷ next ∷ values) = list (value ∷ next ∷ values)

-- what is said of each server
abbrev pub server_members : ListedServer → List MountRow → Members
server_members server rows = members (
    (codes "server_id", text server.name)
    ∷ (codes "source", one_or_list (map (source_data server.base_url) (rows_shown rows)))
    ∷ [])

abbrev pub icecast_data : ListedServer → List MountRow → Data
icecast_data server rows =
    fields ((codes "icestats", object (with_text (codes "server_start_iso8601") server.start (server_members server rows))) ∷ [])

-- rule: Icecast status
unfoldable pub icecast_text : ListedServer → List MountRow → List ℕ
icecast_text server rows = compact_text (icecast_data server rows)
