-- The titles that a listener is sent.
use Rattle.std.specs.Prelude.{◌≡◌, ℕ, suc, List, [], ◌∷◌, Option, None, Some}
use Rattle.radio_icy.specs.Weaving.{Call}
use Rattle.radio_icy.specs.Stream.{title_at, titles_sent}

-- the last one of some titles
abbrev pub last_of_titles : List (List ℕ) → Option (List ℕ)
last_of_titles [] = None
last_of_titles (title ∷ []) = Some title
last_of_titles (title ∷ next ∷ titles) = last_of_titles (next ∷ titles)

-- each title differs from the one before it
abbrev pub AreChanges : List (List ℕ) → Type 0
AreChanges [] = Unit {0}
AreChanges (title ∷ []) = Unit {0}
AreChanges (title ∷ next ∷ titles) = (title ≡ next → ⊥) × AreChanges (next ∷ titles)

-- A draw that ends an interval may have a title. After the block of that interval, it is the last title that was sent.
abbrev pub TitlesAreSentInTime : Type 0
TitlesAreSentInTime = (n : ℕ) (draws : List Call) (k : ℕ) (title : List ℕ) →
    title_at n draws k ≡ Some title → last_of_titles (titles_sent n draws (suc k)) ≡ Some title

-- No title is sent twice in a row.
abbrev pub NoTitleIsRepeated : Type 0
NoTitleIsRepeated = (n : ℕ) (draws : List Call) (k : ℕ) → AreChanges (titles_sent n draws k)
