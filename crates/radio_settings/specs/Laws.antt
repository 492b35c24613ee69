-- What the definitions say of every text, in the words of the format page.
use Rattle.std.specs.Prelude.{◌≡◌, ℕ, ◌⊎◌, true, false, List, ◌∷◌, ◌++◌, Option, None, Some, is_none}
use Rattle.std.specs.List.{list_all}
use Rattle.toml.specs.Data.{Members}
use Rattle.toml.specs.Parse.{parse_document}
use Rattle.radio_keys.specs.declared.fault.SettingsFault.{SettingsFault}
use Rattle.radio_keys.specs.declared.fault.SettingsFault.TheVariants.{NotToml}
use Rattle.radio_settings_values.specs.declared.settings.Settings.{Settings}
use Rattle.radio_settings_values.specs.Repeats.{first_repeat, is_among}
use Rattle.radio_settings.specs.Document.{document_faults, settings_of}

-- no row is faulty
abbrev pub AreAllWell : List (Option SettingsFault) → Type 0
AreAllWell rows = list_all is_none rows ≡ true

-- some row has the fault, and every row before it is well
pub record IsFirstFault (rows : List (Option SettingsFault)) (fault : SettingsFault) : Type 0 where
  pub before : List (Option SettingsFault)
  pub after : List (Option SettingsFault)
  pub are_rows : rows ≡ before ++ Some fault ∷ after
  pub well_before : AreAllWell before

-- the text is TOML, and this is the first fault of its document
-- rule: Reading settings
pub record IsDocumentFault (text : List ℕ) (fault : SettingsFault) : Type 0 where
  pub document : Members
  pub is_toml : parse_document text ≡ Some document
  pub is_first : IsFirstFault (document_faults document) fault

-- what is wrong with a text: it is not TOML, or its document has a fault
abbrev pub IsFaultOfText : List ℕ → SettingsFault → Type 0
IsFaultOfText text fault = ((parse_document text ≡ None) × (fault ≡ NotToml)) ⊎ IsDocumentFault text fault

-- the text is TOML without a fault, and sets this
-- rule: Reading settings
pub record AreSettingsOf (text : List ℕ) (settings : Settings) : Type 0 where
  pub document : Members
  pub is_toml : parse_document text ≡ Some document
  pub is_well : AreAllWell (document_faults document)
  pub is_set : settings ≡ settings_of document

-- the name is among those before it, and no name before it is
-- rule: Repeated names
pub record IsFirstRepeat (names : List (List ℕ)) (name : List ℕ) : Type 0 where
  pub before : List (List ℕ)
  pub after : List (List ℕ)
  pub are_names : names ≡ before ++ name ∷ after
  pub is_repeat : is_among before name ≡ true
  pub none_before : first_repeat before ≡ None

-- no name is among those before it
abbrev pub AreDistinct : List (List ℕ) → Type 0
AreDistinct names = (before after : List (List ℕ)) (name : List ℕ) → names ≡ before ++ name ∷ after → is_among before name ≡ false
