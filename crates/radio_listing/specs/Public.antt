-- The listings for everybody and for relays.
use Rattle.std.specs.Prelude.{ℕ, List, [], ◌∷◌, ◌++◌, map, codes, if◌then◌else◌}
use Rattle.std.specs.List.{flat_map}
use Rattle.serde_json.specs.Data.{Data, Members, put}
use Rattle.serde_json.specs.Written.{compact_text}
use Rattle.radio_listing.specs.declared.rows.MountRow.{MountRow}
use Rattle.radio_listing.specs.declared.rows.PublicRow.{PublicRow}
use Rattle.radio_listing.specs.Json.{text, count, list, fields}

-- what everybody may see: the mounts that are not hidden, in their order
abbrev pub rows_shown : List MountRow → List PublicRow
rows_shown [] = []
rows_shown (row ∷ rows) = if row.hidden then rows_shown rows else row.public ∷ rows_shown rows

-- a mount as everybody sees it
abbrev pub public_data : PublicRow → Data
public_data row = fields (
    (codes "genre", text row.genre)
    ∷ (codes "listeners", count row.listeners)
    ∷ (codes "mount", text row.mount)
    ∷ (codes "name", text row.name)
    ∷ (codes "title", text row.title)
    ∷ (codes "type", text row.content_type)
    ∷ [])

-- an object with what everybody may see of a mount among its members
abbrev pub with_public : PublicRow → Members → Members
with_public row ms =
    put (codes "type") (text row.content_type) (put (codes "title") (text row.title) (put (codes "name") (text row.name)
    (put (codes "mount") (text row.mount) (put (codes "listeners") (count row.listeners) (put (codes "genre") (text row.genre) ms)))))

abbrev pub status_data : List MountRow → Data
status_data rows = fields ((codes "mounts", list (map public_data (rows_shown rows))) ∷ [])

-- the listing for everybody
-- rule: Public status
unfoldable pub status_text : List MountRow → List ℕ
status_text rows = compact_text (status_data rows)

-- a mount's line in the list for relays, with CR LF behind it
abbrev pub stream_line : PublicRow → List ℕ
stream_line row = row.mount ++ 13 ∷ 10 ∷ []

-- the list for relays
-- rule: List of streams
unfoldable pub stream_text : List MountRow → List ℕ
stream_text rows = flat_map stream_line (rows_shown rows)
