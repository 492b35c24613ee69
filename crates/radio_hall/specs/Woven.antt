-- Lists that are woven into one, and a settled history as the entries of all passes.
use Rattle.std.specs.Prelude.{◌≡◌, List, [], ◌∷◌, length, map, sum_by}
use Rattle.radio_events.specs.declared.entry.Entry.{Entry}
use Rattle.radio_chronicle.specs.declared.line.ControlLine.{ControlLine}
use Rattle.radio_parts_mount.specs.declared.item.MountItem.{MountItem}
use Rattle.radio_book.specs.Receipts.{receipt_entry, ReceiptOf}
use Rattle.radio_hall.specs.Settling.{IsSettled}

-- two lists are interleaved as one, which has each item of both once, and keeps the order of each
pub data IsInterleaved {A : Type 0} : List A → List A → List A → Type 0 where
  nothing_left : IsInterleaved [] [] []
  takes_one : (one other all : List A) (item : A) → IsInterleaved one other all → IsInterleaved (item ∷ one) other (item ∷ all)
  takes_other : (one other all : List A) (item : A) → IsInterleaved one other all → IsInterleaved one (item ∷ other) (item ∷ all)

-- these lists are woven into one: the first with what the others are woven into
abbrev pub AreWoven : {A : Type 0} → List (List A) → List A → Type 0
AreWoven [] all = all ≡ []
AreWoven {A} (one ∷ others) all = (rest : List A) × IsInterleaved one rest all × AreWoven others rest

-- the entries of a pass's receipts
abbrev pub entries_of : List ReceiptOf → List Entry
entries_of pass = map receipt_entry pass

-- A settled history has the entry of each receipt of all passes once, in the order of its pass, and no other entry.
-- rule: Settled history
abbrev pub SettledHistoriesAreWoven : Type 0
SettledHistoriesAreWoven = (control : List ControlLine) (mounts : List (List MountItem)) (passes : List (List ReceiptOf)) (history : List Entry)
    → IsSettled control mounts passes history → length history ≡ sum_by length passes → AreWoven (map entries_of passes) history
