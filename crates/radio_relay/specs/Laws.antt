-- What pulls in the sound and the titles of a stream.
use Rattle.std.specs.Prelude.{◌≡◌, ℕ, ◌≤◌, List, [], ◌∷◌, ◌++◌, None, Some, Ok}
use Rattle.std.specs.List.{flat_map}
use Rattle.std.specs.Option.{option_map, option_to_list}
use Rattle.radio_heads.specs.Answer.{listener_text}
use Rattle.radio_heads.specs.Laws.{IsCleanWelcome, IsShortWelcome}
use Rattle.radio_heads.specs.Response.{ResponseParts}
use Rattle.radio_heads.specs.declared.answer.Welcome.{Welcome}
use Rattle.radio_icy.specs.Bare.{bare, block_texts}
use Rattle.radio_values.specs.Cleaning.{cleaned}
use Rattle.radio_values.specs.Limits.{max_title}
use Rattle.radio_values.specs.Sendable.{IsTitle}
use Rattle.radio_icy.specs.Stream.{IsWoven, sound_of_calls, interval_count, titles_sent}
use Rattle.radio_icy.specs.Titles.{title_of, HasNoUrlInside}
use Rattle.radio_icy.specs.Weaving.{Call}
use Rattle.radio_relay.specs.Answer.{interval_in, max_interval}
use Rattle.radio_relay.specs.Pulled.{PulledPart, ShownPart, SoundPart, TitlePart, Pulled, IsPulled, answer_pulled}

-- the bytes of sound among parts
abbrev pub sound_of_parts : List PulledPart → List ℕ
sound_of_parts [] = []
sound_of_parts (ShownPart shown ∷ parts) = sound_of_parts parts
sound_of_parts (SoundPart b ∷ parts) = b ∷ sound_of_parts parts
sound_of_parts (TitlePart title ∷ parts) = sound_of_parts parts

-- the titles among parts
abbrev pub titles_in : List PulledPart → List (List ℕ)
titles_in [] = []
titles_in (ShownPart shown ∷ parts) = titles_in parts
titles_in (SoundPart b ∷ parts) = titles_in parts
titles_in (TitlePart title ∷ parts) = title ∷ titles_in parts

-- the titles of metadata texts, cleaned
abbrev pub titles_of_texts : List (List ℕ) → List (List ℕ)
titles_of_texts texts = flat_map (λ text. option_to_list (option_map (cleaned max_title) (title_of text))) texts

-- behind a head without an interval all is sound
abbrev pub PlainIsSound : Type 0
PlainIsSound = (head : ResponseParts) (rest : List ℕ) → interval_in head ≡ Ok None
    → (sound_of_parts (answer_pulled head rest).parts ≡ rest) × (titles_in (answer_pulled head rest).parts ≡ [])

-- behind a head with an interval are the bare sound, and the titles of the texts of its blocks
abbrev pub WovenIsBare : Type 0
WovenIsBare = (head : ResponseParts) (n : ℕ) (rest : List ℕ) → interval_in head ≡ Ok (Some n)
    → (sound_of_parts (answer_pulled head rest).parts ≡ bare n rest)
    × (titles_in (answer_pulled head rest).parts ≡ titles_of_texts (block_texts n rest))

-- a title that a relay passes on unchanged
pub record IsRelayable (title : List ℕ) : Type 0 where
  pub is_title : IsTitle title
  pub no_url : HasNoUrlInside title

abbrev pub AreRelayable : List (List ℕ) → Type 0
AreRelayable [] = Unit {0}
AreRelayable (title ∷ titles) = IsRelayable title × AreRelayable titles

-- A stream as this server sends it to a listener with metadata, pulled in, is its sound and the titles sent.
abbrev pub RelaysLoseNothing : Type 0
RelaysLoseNothing = (w : Welcome) (n : ℕ) (calls : List Call) (out : List ℕ) (pulled : Pulled)
    → IsCleanWelcome w → IsShortWelcome w → w.interval ≡ Some n → 1 ≤ n → n ≤ max_interval
    → IsWoven n calls out → AreRelayable (titles_sent n calls (interval_count n calls))
    → IsPulled (listener_text w ++ out) pulled
    → (sound_of_parts pulled.parts ≡ sound_of_calls calls) × (titles_in pulled.parts ≡ titles_sent n calls (interval_count n calls))
