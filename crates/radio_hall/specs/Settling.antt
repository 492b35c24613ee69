-- What it means that all passes of a server are settled against its lists.
use Rattle.std.specs.Prelude.{◌≡◌, ◌≢◌, ◌⊎◌, ℕ, ◌+◌, ◌-◌, ◌<◌, ◌≤◌, ◌==◌, Bool, ◌&&◌, if◌then◌else◌, List, [], ◌∷◌, ◌++◌, Option, Some}
use Rattle.std.specs.Prelude.{All, Any, count_by, filter, get_or, length, map, slice_get, sum_by}
use Rattle.std.specs.List.{flat_map}
use Rattle.std.specs.List.Sorted.{IsPermutation}
use Rattle.std.specs.Ordering.{nat_cmp, ordering_then}
use Rattle.std.specs.declared.cmp.Ordering.{Ordering}
use Rattle.std.specs.Option.{is_some, option_and_then}
use Rattle.radio_events.specs.declared.entry.Entry.{Entry}
use Rattle.radio_parts_station.specs.World.{World}
use Rattle.radio_chronicle.specs.History.{IsRun}
use Rattle.radio_chronicle.specs.declared.stamp.Stamp.{Stamp}
use Rattle.radio_chronicle.specs.Stamps.{stamp}
use Rattle.radio_chronicle.specs.declared.line.ControlLine.{ControlLine}
use Rattle.radio_parts_mount.specs.declared.item.MountItem.{MountItem}
use Rattle.radio_merge.specs.declared.fault.MergeFault.{MergeFault}
use Rattle.radio_merge.specs.declared.fault.MergeFault.TheVariants.{OutOfOrder as MergesOutOfOrder, Unlike as MergesUnlike, OutOfMemory as MergesOutOfMemory}
use Rattle.radio_chronicle.specs.Lines.{line_entry}
use Rattle.radio_parts_mount.specs.Items.{own_entry}
use Rattle.radio_merge.specs.Merged.{IsMerge, IsSubsequence}
use Rattle.radio_book.specs.Receipts.{receipt_entry, ReceiptOf}
use Rattle.radio_hall.specs.declared.fault.SettleFault.{SettleFault}
use Rattle.radio_hall.specs.declared.fault.SettleFault.TheVariants.{Strange, Twice, OutOfOrder, Unlike, Count, OutOfMemory}

-- the own entry at this place of a mount's list
abbrev pub own_at : ℕ → List MountItem → Option Entry
own_at place items = option_and_then own_entry (slice_get items place)

-- the entry at a place: of list 0, the control's, a line that is no cut; of a mount's list an own entry
abbrev pub entry_at : List ControlLine → List (List MountItem) → Stamp → Option Entry
entry_at control mounts at =
    if at.list == 0 then option_and_then line_entry (slice_get control (at.serial - 1))
    else option_and_then (own_at (at.serial - 1)) (slice_get mounts (at.list - 1))

-- the receipt's entry is at its place, counted from 1
-- rule: Receipts
abbrev pub StandsIn : List ControlLine → List (List MountItem) → ReceiptOf → Type 0
StandsIn control mounts receipt = (0 < receipt.stamp.serial) × (entry_at control mounts receipt.stamp ≡ Some (receipt_entry receipt))

-- the places of the entries among the items of a list, of which so many come before
abbrev pub places_of : {A : Type 0} → (A → Option Entry) → ℕ → ℕ → List A → List Stamp
places_of entry list before [] = []
places_of entry list before (item ∷ items) =
    (if is_some (entry item) then stamp list (before + 1) ∷ places_of entry list (before + 1) items else places_of entry list (before + 1) items)

-- those of the lists of mounts, of which so many come before
abbrev pub own_places : ℕ → List (List MountItem) → List Stamp
own_places before [] = []
own_places before (items ∷ mounts) = places_of own_entry (before + 1) 0 items ++ own_places (before + 1) mounts

-- the places of all entries that were given a receipt
-- rule: Settled history
abbrev pub all_places : List ControlLine → List (List MountItem) → List Stamp
all_places control mounts = places_of line_entry 0 0 control ++ own_places 0 mounts

-- the places of a pass's receipts
abbrev pub stamps : List ReceiptOf → List Stamp
stamps pass = map (λ receipt. receipt.stamp) pass

-- of all passes
abbrev pub all_stamps : List (List ReceiptOf) → List Stamp
all_stamps passes = flat_map stamps passes

abbrev pub is_same_place : Stamp → Stamp → Bool
is_same_place a b = (a.list == b.list) && (a.serial == b.serial)

-- how often the place is there
abbrev pub times : Stamp → List Stamp → ℕ
times at places = count_by (is_same_place at) places

-- no place is there twice
abbrev pub IsEachOnce : List Stamp → Type 0
IsEachOnce places = (at : Stamp) → times at places ≤ 1

-- places by their lists, and those of one list by their serials
abbrev pub place_order : Stamp → Stamp → Ordering
place_order one other = ordering_then (nat_cmp one.list other.list) (nat_cmp one.serial other.serial)

-- no place is next to its equal
abbrev pub HasNoTwins : List Stamp → Type 0
HasNoTwins places = (i : ℕ) → i + 1 < length places → get_or places i (stamp 0 0) ≢ get_or places (i + 1) (stamp 0 0)

-- the places of a pass's receipts in one list
abbrev pub serials_in : ℕ → List ReceiptOf → List ℕ
serials_in list pass = map (λ (receipt : ReceiptOf). receipt.stamp.serial) (filter (λ (receipt : ReceiptOf). receipt.stamp.list == list) pass)

-- each is above the one before it, and the first above this
abbrev pub Rises : ℕ → List ℕ → Type 0
Rises last [] = Unit {0}
Rises last (x ∷ xs) = (last < x) × Rises x xs

-- `got` comes right after `seen`, which may be what is last before the first of these, and is not above it
abbrev pub Falls : ℕ → ℕ → ℕ → List ℕ → Type 0
Falls last seen got [] = ⊥
Falls last seen got (x ∷ xs) = ((seen ≡ last) × (got ≡ x) × (got ≤ seen)) ⊎ Falls x seen got xs

-- each receipt of each pass is at its place
abbrev pub AllStand : List ControlLine → List (List MountItem) → List (List ReceiptOf) → Type 0
AllStand control mounts passes = All (λ pass. All (StandsIn control mounts) pass) passes

-- each pass has its receipts of each of so many lists in the order of the list
abbrev pub AllRise : ℕ → List (List ReceiptOf) → Type 0
AllRise lists passes = All (λ pass. (list : ℕ) → list < lists → Rises 0 (serials_in list pass)) passes

-- one pass has two receipts of one list, one after the other, of which the second is not behind the first
abbrev pub OneFalls : Stamp → Stamp → List (List ReceiptOf) → Type 0
OneFalls seen got passes = (seen.list ≡ got.list) × Any (λ pass. Falls 0 seen.serial got.serial (serials_in got.list pass)) passes

-- the fault of a merge, as one of settling
abbrev pub of_merge : MergeFault → SettleFault
of_merge (MergesOutOfOrder seen got) = OutOfOrder seen got
of_merge (MergesUnlike at) = Unlike at
of_merge MergesOutOfMemory = OutOfMemory

-- the receipt has this place, and its entry is not there
abbrev pub IsStrange : List ControlLine → List (List MountItem) → Stamp → ReceiptOf → Type 0
IsStrange control mounts at receipt = (receipt.stamp ≡ at) × (StandsIn control mounts receipt → ⊥)

-- the history is a merge of the lists, which keeps the order of each pass
pub record MergesPasses (control : List ControlLine) (mounts : List (List MountItem)) (passes : List (List ReceiptOf)) (history : List Entry) : Type 0 where
  pub order : List Stamp
  pub merge : IsMerge control mounts order history
  pub keeps : All (λ pass. IsSubsequence (stamps pass) order) passes

-- the lists merge in an order that keeps that of each pass. A core that steps through them from this state gives the same replies
abbrev pub AreMerged : World → List ControlLine → List (List MountItem) → List (List ReceiptOf) → Type 0
AreMerged opening control mounts passes = (history : List Entry) × IsRun opening history × MergesPasses control mounts passes history

-- Which fault is named: the first of this order that shows.
--   Strange     a receipt is not at its place
--   Twice       else two receipts have one place
--   OutOfOrder  else a pass has two receipts of one list that do not rise
--   OutOfOrder, Unlike  else the merge finds no order, or a core that steps through it gives another reply
--   Count       else the lists have other entries than the passes have receipts

-- what shows when each receipt is at its place
abbrev pub ShowsByPlaces : World → List ControlLine → List (List MountItem) → List (List ReceiptOf) → SettleFault → Type 0
ShowsByPlaces opening control mounts passes (Twice at) = 2 ≤ times at (all_stamps passes)
ShowsByPlaces opening control mounts passes (OutOfOrder seen got) =
    IsEachOnce (all_stamps passes) × (OneFalls seen got passes ⊎ AllRise (length mounts + 1) passes)
ShowsByPlaces opening control mounts passes (Unlike at) = IsEachOnce (all_stamps passes) × AllRise (length mounts + 1) passes
ShowsByPlaces opening control mounts passes (Count book receipts) =
    IsEachOnce (all_stamps passes) × AllRise (length mounts + 1) passes × AreMerged opening control mounts passes
    × (book ≡ length (all_places control mounts)) × (receipts ≡ sum_by length passes)
ShowsByPlaces opening control mounts passes (Strange at) = ⊥
ShowsByPlaces opening control mounts passes OutOfMemory = Unit {0}

-- what the lists and all passes show if this is their fault
-- rule: Faults of settling
abbrev pub Shows : World → List ControlLine → List (List MountItem) → List (List ReceiptOf) → SettleFault → Type 0
Shows opening control mounts passes OutOfMemory = Unit {0}
Shows opening control mounts passes (Strange at) = Any (λ pass. Any (IsStrange control mounts at) pass) passes
Shows opening control mounts passes fault = AllStand control mounts passes × ShowsByPlaces opening control mounts passes fault

-- so many entries have so many receipts, if it is this that is wrong
abbrev pub IsCounted : ℕ → ℕ → SettleFault → Type 0
IsCounted entries receipts fault = (fault ≡ OutOfMemory) ⊎ (fault ≡ Count entries receipts)

-- All passes are settled as this history: it merges the lists, and each receipt is at its place. Each place of an entry has one receipt in all passes.
-- rule: Settled history
pub record IsSettled (control : List ControlLine) (mounts : List (List MountItem)) (passes : List (List ReceiptOf)) (history : List Entry) : Type 0 where
  pub merges : MergesPasses control mounts passes history
  pub stand : AllStand control mounts passes
  pub once : IsPermutation (all_places control mounts) (all_stamps passes)
