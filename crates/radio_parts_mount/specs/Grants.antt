-- In a list that replays, each own entry is of a client that is attached: it comes after the Attach of its grant, and before the grant is over.
use Rattle.std.specs.Prelude.{◌≡◌, ℕ, ◌+◌, ◌<◌, List, Option, Some, slice_get}
use Rattle.radio_events.specs.declared.entry.Entry.{Entry}
use Rattle.radio_events.specs.Events.{client_in}
use Rattle.radio_policy.specs.declared.rule.Rule.{Rule}
use Rattle.radio_parts_mount.specs.ByLists.{nothing, Replays}
use Rattle.radio_parts_mount.specs.declared.item.Attaching.{Attaching}
use Rattle.radio_parts_mount.specs.declared.item.MountItem.{MountItem}
use Rattle.radio_parts_mount.specs.declared.item.MountItem.TheVariants.{Attach, Detach, Own}

-- the client has had the grant since its Attach, which is before this place, and up to there it is not over
pub record HasGrant (items : List MountItem) (before grant id : ℕ) : Type 0 where
  pub place : ℕ
  pub attached : Attaching
  pub earlier : place < before
  pub is : grant ≡ place + 1
  pub begins : slice_get items place ≡ Some (Attach id attached)
  pub lasts : (k other : ℕ) (rule : Option Rule) → place < k → k < before → slice_get items k ≡ Some (Detach id other rule) → ⊥

abbrev pub GrantsComeFirst : Type 0
GrantsComeFirst = (queue : ℕ) (mount : List ℕ) (items : List MountItem) → Replays queue mount nothing items
    → (i grant moment : ℕ) (entry : Entry) → slice_get items i ≡ Some (Own grant moment entry)
    → (id : ℕ) × (client_in entry.event ≡ Some id) × HasGrant items i grant id
