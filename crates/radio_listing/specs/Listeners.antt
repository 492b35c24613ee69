-- The listing of a mount's listeners.
use Rattle.std.specs.Prelude.{ℕ, List, [], ◌∷◌, map, codes, unwrap_or}
use Rattle.serde_json.specs.Data.{Data, string}
use Rattle.serde_json.specs.Written.{compact_text}
use Rattle.radio_addr.specs.Writing.{written}
use Rattle.radio_listing.specs.declared.rows.ListedListener.{ListedListener}
use Rattle.radio_listing.specs.Json.{text, count, list, fields}

-- a listener at a mount
abbrev pub listener_data : List ℕ → ListedListener → Data
listener_data mount row = fields (
    (codes "home", text row.home)
    ∷ (codes "id", count row.id)
    ∷ (codes "mount", text mount)
    ∷ (codes "peer", string (written row.peer))
    ∷ (codes "seconds", count row.seconds)
    ∷ (codes "user", text (unwrap_or row.user []))
    ∷ [])

abbrev pub listeners_data : List ℕ → List ListedListener → Data
listeners_data mount rows =
    fields ((codes "listeners", list (map (listener_data mount) rows)) ∷ (codes "mount", text mount) ∷ [])

-- the listeners at a mount
-- rule: List of clients
unfoldable pub listeners_text : List ℕ → List ListedListener → List ℕ
listeners_text mount rows = compact_text (listeners_data mount rows)
