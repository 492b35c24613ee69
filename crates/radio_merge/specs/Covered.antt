-- What control entries make in the lists of mounts.
use Rattle.std.specs.Prelude.{◌≡◌, ℕ, ◌+◌, ◌≤◌, ◌<◌, false, List, None, Some, slice_get}
use Rattle.radio_events.specs.declared.entry.Entry.{Entry}
use Rattle.radio_chronicle.specs.declared.line.ControlLine.{ControlLine}
use Rattle.radio_chronicle.specs.declared.line.ControlLine.TheVariants.{Cut}
use Rattle.radio_parts_mount.specs.declared.item.MountItem.{MountItem}
use Rattle.radio_chronicle.specs.declared.stamp.Stamp.{Stamp}
use Rattle.radio_parts_mount.specs.Items.{is_left_out, own_entry}
use Rattle.radio_merge.specs.Merged.{IsMerge}

-- no own entry and no end by a push. It is an Attach, a title by a command, or a Detach by a command, a move or an end
pub record IsMade (item : MountItem) : Type 0 where
  pub no_entry : own_entry item ≡ None
  pub no_lag : is_left_out item ≡ false

-- place i of the list of mount m lies in the range of a cut of the control's list
pub record InCut (control : List ControlLine) (m i : ℕ) : Type 0 where
  pub list : ℕ
  pub from : ℕ
  pub to : ℕ
  pub place : ℕ
  pub line : slice_get control place ≡ Some (Cut list from to)
  pub is : list ≡ m + 1
  pub low : from ≤ i
  pub high : i < to

-- in merged lists each such item lies in the range of a cut
abbrev pub TheControlMakesTheRest : Type 0
TheControlMakesTheRest = (control : List ControlLine) (mounts : List (List MountItem)) (order : List Stamp) (history : List Entry)
    → IsMerge control mounts order history → (m i : ℕ) (items : List MountItem) (item : MountItem)
    → slice_get mounts m ≡ Some items → slice_get items i ≡ Some item → IsMade item → InCut control m i
