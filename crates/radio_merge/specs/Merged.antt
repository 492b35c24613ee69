-- What a merge of lists is.
use Rattle.std.specs.Prelude.{◌≡◌, ◌⊎◌, ℕ, ◌+◌, ◌-◌, ◌<◌, true, List, [], ◌∷◌, ◌++◌, Some, length, map, replicate, slice_get, slice_set}
use Rattle.radio_events.specs.declared.entry.Entry.{Entry}
use Rattle.radio_chronicle.specs.declared.line.ControlLine.{ControlLine}
use Rattle.radio_chronicle.specs.declared.line.ControlLine.TheVariants.{Cut, Made}
use Rattle.radio_parts_mount.specs.declared.item.MountItem.{MountItem}
use Rattle.radio_chronicle.specs.declared.stamp.Stamp.{Stamp}
use Rattle.radio_parts_mount.specs.Items.{is_left_out, own_entry}
use Rattle.radio_chronicle.specs.Stamps.{stamp}

-- how far each list was taken: what is left of the control's, and how many items of each mount's
pub record Positions : Type 0 where
  pub control : List ControlLine
  pub mounts : List ℕ

-- the next control entry behind its cuts: each list was taken up to its cut, and goes on behind what the entry made there
abbrev pub PastCuts : List ControlLine → List ℕ → Entry → List ControlLine → List ℕ → Type 0
PastCuts [] at e rest at' = ⊥
PastCuts (Cut list from to ∷ lines) at e rest at' =
    (0 < list) × (slice_get at (list - 1) ≡ Some from) × PastCuts lines (slice_set at (list - 1) to) e rest at'
PastCuts (Made x ∷ lines) at e rest at' = (e ≡ x) × (rest ≡ lines) × (at' ≡ at)

-- n items of the list of mount m were taken, and this one is next
pub record IsNext (mounts : List (List MountItem)) (at : Positions) (m n : ℕ) (item : MountItem) : Type 0 where
  pub items : List MountItem
  pub list : slice_get mounts m ≡ Some items
  pub reached : slice_get at.mounts m ≡ Some n
  pub next : slice_get items n ≡ Some item

abbrev pub one_further : Positions → ℕ → ℕ → Positions
one_further at m n = record at { mounts = slice_set at.mounts m (n + 1) }

-- nothing is taken yet
abbrev pub beginning : List ControlLine → List (List MountItem) → Positions
beginning control mounts = record { control = control; mounts = replicate (length mounts) 0 }

-- These places were taken in this order, with these entries, up to these positions. Each list keeps its order. A control entry comes at its
-- cuts and takes the place of what it made. Ends that a push made are left out.
pub data Merged (control : List ControlLine) (mounts : List (List MountItem)) : List Stamp → List Entry → Positions → Type 0 where
  Begins : Merged control mounts [] [] (beginning control mounts)
  LeavesOut : (order : List Stamp) (history : List Entry) (at : Positions) (m n : ℕ) (item : MountItem) → Merged control mounts order history at
      → IsNext mounts at m n item → is_left_out item ≡ true → Merged control mounts order history (one_further at m n)
  TakesOwn : (order : List Stamp) (history : List Entry) (at : Positions) (m n : ℕ) (item : MountItem) (entry : Entry) → Merged control mounts order history at
      → IsNext mounts at m n item → own_entry item ≡ Some entry
      → Merged control mounts (order ++ stamp (m + 1) (n + 1) ∷ []) (history ++ entry ∷ []) (one_further at m n)
  TakesControl : (order : List Stamp) (history : List Entry) (at at' : Positions) (entry : Entry) → Merged control mounts order history at
      → PastCuts at.control at.mounts entry at'.control at'.mounts
      → Merged control mounts (order ++ stamp 0 (length control - length at'.control) ∷ []) (history ++ entry ∷ []) at'

-- nothing is left of any list
pub record AtEnd (mounts : List (List MountItem)) (at : Positions) : Type 0 where
  pub none : at.control ≡ []
  pub all : at.mounts ≡ map length mounts

-- the first list is a subsequence of the second
abbrev pub IsSubsequence : List Stamp → List Stamp → Type 0
IsSubsequence [] order = Unit {0}
IsSubsequence (s ∷ pass) [] = ⊥
IsSubsequence (s ∷ pass) (x ∷ order) = ((s ≡ x) × IsSubsequence pass order) ⊎ IsSubsequence (s ∷ pass) order

-- a merge takes each list to its end
pub record IsMerge (control : List ControlLine) (mounts : List (List MountItem)) (order : List Stamp) (history : List Entry) : Type 0 where
  pub at : Positions
  pub merged : Merged control mounts order history at
  pub ends : AtEnd mounts at
