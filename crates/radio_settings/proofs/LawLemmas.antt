-- Lists of rows and of names, cut where the first fault or the first repeat stands.
use Rattle.std.proofs.Common.{◌≡◌, ℕ, true, false, cond, List, [], ◌∷◌, ◌++◌, Option, None, Some, Result, Ok, Err, refl, ap, sym, ◌∙◌, append_assoc, inl, inr}
use Rattle.std.proofs.lemmas.Bool.{false≢true}
use Rattle.std.proofs.lemmas.List.{append-nil}
use Rattle.std.specs.Option.{option_map_or}
use Rattle.toml.specs.Data.{Members}
use Rattle.toml.specs.Parse.{parse_document}
use Rattle.radio_keys.specs.declared.fault.SettingsFault.{SettingsFault}
use Rattle.radio_keys.specs.declared.fault.SettingsFault.TheVariants.{NotToml}
use Rattle.radio_keys.specs.Rows.{first_fault}
use Rattle.radio_settings_values.specs.declared.settings.Settings.{Settings}
use Rattle.radio_settings_values.specs.Repeats.{first_repeat, first_repeat_after, is_among}
use Rattle.radio_settings.specs.Document.{document_faults, document_reading, settings_or_fault, settings_of, reading_of}
use Rattle.radio_settings.specs.Laws.{AreAllWell, AreDistinct, IsFirstFault, IsFaultOfText, AreSettingsOf, IsFirstRepeat}

abbrev pub Faults : Type 0
Faults = List (Option SettingsFault)

-- one more well row in front
behind_well : (rows : Faults) (fault : SettingsFault) → IsFirstFault rows fault → IsFirstFault (None ∷ rows) fault
behind_well rows fault h = record { before = None ∷ h.before; after = h.after; are_rows = ap (λ rs. None ∷ rs) h.are_rows; well_before = h.well_before }

pub cut_at_fault : (rows : Faults) (fault : SettingsFault) → first_fault rows ≡ Some fault → IsFirstFault rows fault
cut_at_fault [] fault h = absurd (cc)
cut_at_fault (None ∷ rows) fault h = behind_well rows fault (cut_at_fault rows fault h)
cut_at_fault (Some found ∷ rows) fault h = record { before = []; after = rows; are_rows = ap (λ f. f ∷ rows) h; well_before = refl }

fault_past_well : (before after : Faults) (fault : SettingsFault) → AreAllWell before → first_fault (before ++ Some fault ∷ after) ≡ Some fault
fault_past_well [] after fault h = refl
fault_past_well (None ∷ before) after fault h = fault_past_well before after fault h
fault_past_well (Some found ∷ before) after fault h = absurd (false≢true h)

pub fault_at_cut : (rows : Faults) (fault : SettingsFault) → IsFirstFault rows fault → first_fault rows ≡ Some fault
fault_at_cut rows fault h = ap first_fault h.are_rows ∙ fault_past_well h.before h.after fault h.well_before

pub all_well : (rows : Faults) → first_fault rows ≡ None → AreAllWell rows
all_well [] h = refl
all_well (None ∷ rows) h = all_well rows h
all_well (Some found ∷ rows) h = absurd (cc)

pub no_fault : (rows : Faults) → AreAllWell rows → first_fault rows ≡ None
no_fault [] h = refl
no_fault (None ∷ rows) h = no_fault rows h
no_fault (Some found ∷ rows) h = absurd (false≢true h)

-- what a document comes to, taken apart
fault_in : (d : Members) (o : Option SettingsFault) (fault : SettingsFault) → settings_or_fault d o ≡ Err fault → o ≡ Some fault
fault_in d None fault h = absurd (cc)
fault_in d (Some found) fault h = cc

settings_in : (d : Members) (o : Option SettingsFault) (settings : Settings) → settings_or_fault d o ≡ Ok settings → (o ≡ None) × (settings ≡ settings_of d)
settings_in d None settings h = (refl, cc)
settings_in d (Some found) settings h = absurd (cc)

-- what a text comes to, by what it is as TOML
abbrev read_as : Option Members → Result Settings SettingsFault
read_as o = option_map_or document_reading o (Err NotToml)

fault_read : (text : List ℕ) (o : Option Members) (fault : SettingsFault) → parse_document text ≡ o → read_as o ≡ Err fault → IsFaultOfText text fault
fault_read text None fault is h = inl (is, cc)
fault_read text (Some d) fault is h =
    inr (record { document = d; is_toml = is; is_first = cut_at_fault (document_faults d) fault (fault_in d (first_fault (document_faults d)) fault h) })

settings_read : (text : List ℕ) (o : Option Members) (settings : Settings) → parse_document text ≡ o → read_as o ≡ Ok settings → AreSettingsOf text settings
settings_read text None settings is h = absurd (cc)
settings_read text (Some d) settings is h =
    let parts = settings_in d (first_fault (document_faults d)) settings h in
    record { document = d; is_toml = is; is_well = all_well (document_faults d) parts.0; is_set = parts.1 }

pub fault_of_reading : (text : List ℕ) (fault : SettingsFault) → reading_of text ≡ Err fault → IsFaultOfText text fault
unfolding reading_of
fault_of_reading text fault h = fault_read text (parse_document text) fault refl h

pub reading_of_fault : (text : List ℕ) (fault : SettingsFault) → IsFaultOfText text fault → reading_of text ≡ Err fault
unfolding reading_of
reading_of_fault text fault (inl h) = ap read_as h.0 ∙ ap Err (sym h.1)
reading_of_fault text fault (inr h) = ap read_as h.is_toml ∙ ap (settings_or_fault h.document) (fault_at_cut (document_faults h.document) fault h.is_first)

pub settings_of_reading : (text : List ℕ) (settings : Settings) → reading_of text ≡ Ok settings → AreSettingsOf text settings
unfolding reading_of
settings_of_reading text settings h = settings_read text (parse_document text) settings refl h

pub reading_of_settings : (text : List ℕ) (settings : Settings) → AreSettingsOf text settings → reading_of text ≡ Ok settings
unfolding reading_of
reading_of_settings text settings h =
    ap read_as h.is_toml ∙ ap (settings_or_fault h.document) (no_fault (document_faults h.document) h.is_well) ∙ ap Ok (sym h.is_set)

-- a repeat behind names that were passed
record Cut (passed names : List (List ℕ)) (name : List ℕ) : Type 0 where
  before : List (List ℕ)
  after : List (List ℕ)
  are_names : names ≡ before ++ name ∷ after
  is_repeat : is_among (passed ++ before) name ≡ true
  none_before : first_repeat_after passed before ≡ None

here : (passed names : List (List ℕ)) (n name : List ℕ) → is_among passed n ≡ true → n ≡ name → Cut passed (n ∷ names) name
here passed names n name old same =
    record { before = []; after = names; are_names = ap (λ m. m ∷ names) same; is_repeat = rw (append-nil, ← same) old; none_before = refl }

later : (passed names : List (List ℕ)) (n name : List ℕ) → is_among passed n ≡ false → Cut (passed ++ n ∷ []) names name → Cut passed (n ∷ names) name
later passed names n name new h = record {
  before = n ∷ h.before;
  after = h.after;
  are_names = ap (λ ms. n ∷ ms) h.are_names;
  is_repeat = ap (λ ms. is_among ms name) (sym (append_assoc passed (n ∷ []) h.before)) ∙ h.is_repeat;
  none_before = rw new h.none_before;
}

cut_at_repeat : (passed names : List (List ℕ)) (name : List ℕ) → first_repeat_after passed names ≡ Some name → Cut passed names name
cut_at_repeat passed [] name h = absurd (cc)
cut_at_repeat passed (n ∷ names) name h =
    elim (is_among passed n) as
    (λ b. is_among passed n ≡ b → cond b (Some n) (first_repeat_after (passed ++ n ∷ []) names) ≡ Some name → Cut passed (n ∷ names) name) [
      | true ↦ λ old found. here passed names n name old (cc)
      | false ↦ λ new found. later passed names n name new (cut_at_repeat (passed ++ n ∷ []) names name found)
    ] refl h

repeat_at_cut : (passed before after : List (List ℕ)) (name : List ℕ) → is_among (passed ++ before) name ≡ true → first_repeat_after passed before ≡ None
    → first_repeat_after passed (before ++ name ∷ after) ≡ Some name
repeat_at_cut passed [] after name old none =
    ap (λ b. cond b (Some name) (first_repeat_after (passed ++ name ∷ []) after)) (ap (λ ms. is_among ms name) (sym (append-nil passed)) ∙ old)
repeat_at_cut passed (n ∷ before) after name old none =
    elim (is_among passed n) as (λ b. is_among passed n ≡ b → cond b (Some n) (first_repeat_after (passed ++ n ∷ []) before) ≡ None
    → cond b (Some n) (first_repeat_after (passed ++ n ∷ []) (before ++ name ∷ after)) ≡ Some name) [
      | true ↦ λ is found. absurd (cc)
      | false ↦ λ is found. repeat_at_cut (passed ++ n ∷ []) before after name (ap (λ ms. is_among ms name) (append_assoc passed (n ∷ []) before) ∙ old) found
    ] refl none

pub first_repeat_cut : (names : List (List ℕ)) (name : List ℕ) → first_repeat names ≡ Some name → IsFirstRepeat names name
unfolding first_repeat
first_repeat_cut names name h =
    let c = cut_at_repeat [] names name h in
    record { before = c.before; after = c.after; are_names = c.are_names; is_repeat = c.is_repeat; none_before = c.none_before }

pub first_repeat_at_cut : (names : List (List ℕ)) (name : List ℕ) → IsFirstRepeat names name → first_repeat names ≡ Some name
unfolding first_repeat
first_repeat_at_cut names name h = ap (first_repeat_after []) h.are_names ∙ repeat_at_cut [] h.before h.after name h.is_repeat h.none_before

-- names apart from those that were passed and from one another
apart_after : (passed before after : List (List ℕ)) (name : List ℕ) → first_repeat_after passed (before ++ name ∷ after) ≡ None
    → is_among (passed ++ before) name ≡ false
apart_after passed [] after name none =
    elim (is_among passed name) as
    (λ b. is_among passed name ≡ b → cond b (Some name) (first_repeat_after (passed ++ name ∷ []) after) ≡ None → is_among (passed ++ []) name ≡ false) [
      | true ↦ λ is found. absurd (cc)
      | false ↦ λ is found. ap (λ ms. is_among ms name) (append-nil passed) ∙ is
    ] refl none
apart_after passed (n ∷ before) after name none =
    elim (is_among passed n) as (λ b. is_among passed n ≡ b → cond b (Some n) (first_repeat_after (passed ++ n ∷ []) (before ++ name ∷ after)) ≡ None
    → is_among (passed ++ n ∷ before) name ≡ false) [
      | true ↦ λ is found. absurd (cc)
      | false ↦ λ is found. ap (λ ms. is_among ms name) (sym (append_assoc passed (n ∷ []) before)) ∙ apart_after (passed ++ n ∷ []) before after name found
    ] refl none

none_after : (passed names : List (List ℕ))
    → ((before after : List (List ℕ)) (name : List ℕ) → names ≡ before ++ name ∷ after → is_among (passed ++ before) name ≡ false)
    → first_repeat_after passed names ≡ None
none_after passed [] apart = refl
none_after passed (n ∷ names) apart =
    let new : is_among passed n ≡ false = ap (λ ms. is_among ms n) (sym (append-nil passed)) ∙ apart [] names n refl in
    ap (λ b. cond b (Some n) (first_repeat_after (passed ++ n ∷ []) names)) new
    ∙ none_after (passed ++ n ∷ []) names (λ before after name are.
    ap (λ ms. is_among ms name) (append_assoc passed (n ∷ []) before) ∙ apart (n ∷ before) after name (ap (λ ms. n ∷ ms) are))

pub apart_from_none : (names : List (List ℕ)) → first_repeat names ≡ None → AreDistinct names
unfolding first_repeat
apart_from_none names none before after name are = apart_after [] before after name (ap (first_repeat_after []) (sym are) ∙ none)

pub none_from_apart : (names : List (List ℕ)) → AreDistinct names → first_repeat names ≡ None
unfolding first_repeat
none_from_apart names apart = none_after [] names apart
