-- What listings show, and to whom.
use Rattle.std.specs.Prelude.{◌≡◌, ℕ, List, [], ◌∷◌, ◌++◌, map, filter, not, codes, Option, Some, unwrap_or}
use Rattle.std.specs.Option.{option_and_then, option_map}
use Rattle.std.specs.Str.Lossy.{utf8_lossy}
use Rattle.serde_json.specs.Data.{Data, Items, no_items, item}
use Rattle.serde_json.specs.Find.{get, as_array, as_str}
use Rattle.radio_listing.specs.declared.rows.ListedServer.{ListedServer}
use Rattle.radio_listing.specs.declared.rows.MountRow.{MountRow}
use Rattle.radio_listing.specs.declared.rows.PublicRow.{PublicRow}
use Rattle.radio_listing.specs.Public.{rows_shown, status_text, stream_text}
use Rattle.radio_listing.specs.Icecast.{icecast_text}

-- the listings that everybody and relays may see are the same for these rows
pub record LookAlike (rows others : List MountRow) : Type 0 where
  pub status : status_text rows ≡ status_text others
  pub streams : stream_text rows ≡ stream_text others
  pub icecast : (server : ListedServer) → icecast_text server rows ≡ icecast_text server others

-- what the rows that are not hidden show, in their order
abbrev pub not_hidden : List MountRow → List PublicRow
not_hidden rows = map (λ row. row.public) (filter (λ row. not row.hidden) rows)

-- the mounts that some JSON names: the member `mount` of each item
abbrev pub names_of : Items → List (Option (List ℕ))
names_of no_items = []
names_of (item value values) = option_and_then as_str (get (codes "mount") value) ∷ names_of values

-- those of its member `mounts`
abbrev pub mounts_named : Data → Option (List (Option (List ℕ)))
mounts_named shown = option_map names_of (option_and_then as_array (get (codes "mounts") shown))

-- the names of the mounts that are not hidden, as text
abbrev pub shown_names : List MountRow → Option (List (Option (List ℕ)))
shown_names rows = Some (map (λ (row : PublicRow). Some (utf8_lossy row.mount)) (rows_shown rows))

-- the sources of an answer of Icecast: the one, or those of the list
abbrev pub sources_in : Data → Items
sources_in source = unwrap_or (as_array source) (item source no_items)

-- where sources are heard: the member `listenurl` of each
abbrev pub urls_of : Items → List (Option (List ℕ))
urls_of no_items = []
urls_of (item value values) = option_and_then as_str (get (codes "listenurl") value) ∷ urls_of values

abbrev pub urls_told : Data → Option (List (Option (List ℕ)))
urls_told shown =
    option_map (λ source. urls_of (sources_in source)) (option_and_then (get (codes "source")) (get (codes "icestats") shown))

-- where the mounts that are not hidden are heard, as text
abbrev pub shown_urls : List ℕ → List MountRow → Option (List (Option (List ℕ)))
shown_urls base rows = Some (map (λ (row : PublicRow). Some (utf8_lossy (base ++ row.mount))) (rows_shown rows))
