-- The listings of mounts for operators.
use Rattle.std.specs.Prelude.{ℕ, ◌-◌, ◌^◌, min, sum_by, List, [], ◌∷◌, length, map, codes, unwrap_or}
use Rattle.serde_json.specs.Data.{Data, boolean}
use Rattle.serde_json.specs.Written.{compact_text}
use Rattle.radio_listing.specs.declared.rows.MountRow.{MountRow}
use Rattle.radio_listing.specs.Json.{text, count, list, fields}

-- a live mount as an operator sees it
abbrev pub stats_row : MountRow → Data
stats_row row = fields (
    (codes "genre", text row.public.genre)
    ∷ (codes "hidden", boolean row.hidden)
    ∷ (codes "listeners", count row.public.listeners)
    ∷ (codes "mount", text row.public.mount)
    ∷ (codes "name", text row.public.name)
    ∷ (codes "session", count row.session)
    ∷ (codes "title", text row.public.title)
    ∷ (codes "type", text row.public.content_type)
    ∷ [])

-- how many listen at all the mounts, to the largest number of 64 bits
unfoldable pub all_listeners : List MountRow → ℕ
all_listeners rows = min (sum_by (λ row. row.public.listeners) rows) (2 ^ 64 - 1)

abbrev pub stats_data : ℕ → List MountRow → Data
stats_data clients rows = fields (
    (codes "clients", count clients)
    ∷ (codes "listeners", count (all_listeners rows))
    ∷ (codes "mounts", list (map stats_row rows))
    ∷ (codes "sources", count (length rows))
    ∷ [])

-- what the server does as a whole
-- rule: Admin stats
unfoldable pub stats_text : ℕ → List MountRow → List ℕ
stats_text clients rows = compact_text (stats_data clients rows)

-- a live mount and where its listeners fall back to
abbrev pub mount_row : MountRow → Data
mount_row row = fields (
    (codes "fallback", text (unwrap_or row.fallback []))
    ∷ (codes "hidden", boolean row.hidden)
    ∷ (codes "listeners", count row.public.listeners)
    ∷ (codes "mount", text row.public.mount)
    ∷ [])

abbrev pub mounts_data : List MountRow → Data
mounts_data rows = fields ((codes "mounts", list (map mount_row rows)) ∷ [])

-- the live mounts
-- rule: List of mounts
unfoldable pub mounts_text : List MountRow → List ℕ
mounts_text rows = compact_text (mounts_data rows)
