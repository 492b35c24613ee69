-- The first fault of a document, by its parts.
use Rattle.std.proofs.Common.{◌≡◌, ℕ, Ok, Err, List, [], ◌∷◌, ◌++◌, Option, None, Some, refl, ap, ◌∙◌}
use Rattle.std.specs.Option.{option_or, option_map_or}
use Rattle.toml.specs.Data.{Members}
use Rattle.toml.specs.Parse.{parse_document}
use Rattle.radio_keys.specs.declared.fault.SettingsFault.{SettingsFault}
use Rattle.radio_keys.specs.declared.fault.SettingsFault.TheVariants.{NotToml}
use Rattle.radio_keys.specs.Rows.{first_fault}
use Rattle.radio_settings.specs.Access.{access_fault}
use Rattle.radio_settings.specs.Document.{access_faults, listen_faults, limits_faults, web_faults, mounts_faults, relays_faults, slave_faults, repeat_faults, name_faults}
use Rattle.radio_settings.specs.Document.{document_faults, document_reading, settings_or_fault, settings_of, reading_of}
use Rattle.radio_settings.specs.Parts.{apart_fault, basics_fault, fault_by_parts, limits_table_fault, listen_table_fault, lists_fault}
use Rattle.radio_settings.specs.Parts.{mounts_fault, named_fault, optional_slave_fault, relays_fault, station_fault, streams_fault, web_table_fault}
use Rattle.radio_settings.specs.WebNames.{web_names_fault}
use Rattle.radio_settings.proofs.FaultLemmas.{first_fault-append, in_nested_groups, in_one}

abbrev Faults : Type 0
Faults = List (Option SettingsFault)

-- the rows of a document from a part on
abbrev from_relays : Members → Faults
from_relays d = relays_faults d ++ (slave_faults d ++ (repeat_faults d ++ name_faults d))

abbrev from_web : Members → Faults
from_web d = web_faults d ++ (mounts_faults d ++ from_relays d)

-- some rows, and more rows behind them whose first fault is known
before_more : (xs ys : Faults) (y : Option SettingsFault) → first_fault ys ≡ y → first_fault (xs ++ ys) ≡ option_or (first_fault xs) y
before_more xs ys y known = first_fault-append xs ys ∙ ap (option_or (first_fault xs)) known

abbrev basics : Members → Faults
basics d = access_fault d ∷ listen_table_fault d ∷ limits_table_fault d ∷ web_table_fault d ∷ []

-- three tables in one
basics_grouped : (d : Members) → first_fault (basics d) ≡ basics_fault d
unfolding basics_fault station_fault
basics_grouped d = ap (option_or (access_fault d)) (in_one (listen_table_fault d ∷ limits_table_fault d ∷ web_table_fault d ∷ []))

abbrev lists : Members → Faults
lists d = mounts_fault d ∷ relays_fault d ∷ optional_slave_fault d ∷ []

-- the rows of a whole document have the first fault that its parts have
first_of_parts : (d : Members) → first_fault (document_faults d) ≡ first_fault (basics d ++ (lists d ++ (repeat_faults d ++ name_faults d)))
unfolding document_faults access_fault listen_table_fault limits_table_fault web_table_fault mounts_fault relays_fault optional_slave_fault
first_of_parts d =
    before_more (access_faults d) (listen_faults d ++ (limits_faults d ++ from_web d)) _
    (before_more (listen_faults d) (limits_faults d ++ from_web d) _
    (before_more (limits_faults d) (from_web d) _
    (before_more (web_faults d) (mounts_faults d ++ from_relays d) _
    (before_more (mounts_faults d) (from_relays d) _
    (before_more (relays_faults d) (slave_faults d ++ (repeat_faults d ++ name_faults d)) _
    (before_more (slave_faults d) (repeat_faults d ++ name_faults d) _ refl))))))

abbrev from_streams : Members → Option SettingsFault
from_streams d =
    first_fault (first_fault (first_fault (lists d) ∷ first_fault (repeat_faults d) ∷ []) ∷ first_fault (name_faults d) ∷ [])

pub first_of_document : (d : Members) → first_fault (document_faults d) ≡ fault_by_parts d
unfolding lists_fault apart_fault named_fault web_names_fault streams_fault
first_of_document d =
    first_of_parts d
    ∙ in_nested_groups (basics d) (lists d) (repeat_faults d) (name_faults d)
    ∙ ap (λ f. option_or f (first_fault (from_streams d ∷ []))) (basics_grouped d)

-- what a text comes to, by what its parts come to
pub reads_no_toml : (text : List ℕ) → parse_document text ≡ None → reading_of text ≡ Err NotToml
unfolding reading_of
reads_no_toml text p = ap (λ found. option_map_or document_reading found (Err NotToml)) p

pub reads_settings : (text : List ℕ) (d : Members) → parse_document text ≡ Some d → fault_by_parts d ≡ None → reading_of text ≡ Ok (settings_of d)
unfolding reading_of
reads_settings text d p well =
    ap (λ found. option_map_or document_reading found (Err NotToml)) p ∙ ap (settings_or_fault d) (first_of_document d ∙ well)

pub reads_fault : (text : List ℕ) (d : Members) (fault : SettingsFault) → parse_document text ≡ Some d → fault_by_parts d ≡ Some fault
    → reading_of text ≡ Err fault
unfolding reading_of
reads_fault text d fault p found =
    ap (λ o. option_map_or document_reading o (Err NotToml)) p ∙ ap (settings_or_fault d) (first_of_document d ∙ found)
