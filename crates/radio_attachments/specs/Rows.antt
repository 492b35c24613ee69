-- The rows of those who are attached to a mount.
use Rattle.std.specs.Prelude.{◌≡◌, ℕ, ◌-◌, Bool, ◌==◌, true, nat_lt, if◌then◌else◌, List, [], ◌∷◌, Option, Some, None, find}
use Rattle.radio_tables.specs.Lists.{Each, update_first}
use Rattle.radio_attachments.specs.declared.attachment.Attachment.{Attachment}

abbrev pub is_attached : ℕ → Attachment → Bool
is_attached id row = row.id == id

abbrev pub at_place : ℕ → Attachment → Attachment
at_place place row = record row { place = place }

-- its place is further behind this end than a queue is long
abbrev pub lags : ℕ → ℕ → Attachment → Bool
lags end queue row = nat_lt queue (end - row.place)

-- rows are in the order of their numbers
abbrev pub comes_before : ℕ → ℕ → Bool
comes_before one other = nat_lt one other

abbrev pub IsBefore : Attachment → Attachment → Type 0
IsBefore one other = comes_before one.id other.id ≡ true

-- each is before all that come later
abbrev pub AreInOrder : List Attachment → Type 0
AreInOrder [] = Unit {0}
AreInOrder (row ∷ rows) = Each (IsBefore row) rows × AreInOrder rows

-- a row is put into its place, or into that of one of its number
abbrev pub put_in : Attachment → List Attachment → List Attachment
put_in new [] = new ∷ []
put_in new (row ∷ rows) =
    if new.id == row.id then new ∷ rows else if comes_before new.id row.id then new ∷ row ∷ rows else row ∷ put_in new rows

-- a row, with those before it and those behind it
pub record Forked : Type 0 where
  pub row : Attachment
  pub less : List Attachment
  pub more : List Attachment

-- what becomes of the attachment that was found: its place is visited, and another takes its place
abbrev pub FoundIsVisited : {V A : Type 0} → (V → ℕ → A → V → ℕ → Type 0) → ℕ → V → List Attachment → Option A → V → List Attachment → Option Attachment → Type 0
FoundIsVisited Visits id visitor rows answer visitor' rows' None = (answer ≡ None) × (visitor' ≡ visitor) × (rows' ≡ rows)
FoundIsVisited {A = A} Visits id visitor rows answer visitor' rows' (Some row) =
    (a : A) × (place : ℕ) × (answer ≡ Some a) × (rows' ≡ update_first (is_attached id) (at_place place) rows) × Visits visitor row.place a visitor' place

-- the place of the attachment of this number is visited, if there is one
abbrev pub IsVisitedIn : {V A : Type 0} → (V → ℕ → A → V → ℕ → Type 0) → ℕ → V → List Attachment → Option A → V → List Attachment → Type 0
IsVisitedIn Visits id visitor rows answer visitor' rows' = FoundIsVisited Visits id visitor rows answer visitor' rows' (find (is_attached id) rows)
