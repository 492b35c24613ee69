-- The words for a fault.
use Rattle.std.specs.Prelude.{ℕ, List, [], ◌++◌, codes}
use Rattle.std.specs.Fmt.{decimal}
use Rattle.radio_chronicle.specs.declared.stamp.Stamp.{Stamp}
use Rattle.radio_hall.specs.declared.fault.SettleFault.{SettleFault}
use Rattle.radio_hall.specs.declared.fault.SettleFault.TheVariants.{Strange, Twice, OutOfOrder, Unlike, Count, OutOfMemory}

-- a place, between two texts
abbrev pub place_text : List ℕ → Stamp → List ℕ → List ℕ
place_text before at after = before ++ (decimal at.serial ++ (codes " of list " ++ (decimal at.list ++ after)))

-- two places that are not in order
abbrev pub order_text : Stamp → Stamp → List ℕ
order_text seen got =
    codes "receipt " ++ (decimal got.serial ++ (codes " of list " ++ (decimal got.list
    ++ (codes " after " ++ (decimal seen.serial ++ (codes " of list " ++ decimal seen.list))))))

-- a number of entries, and one of receipts
abbrev pub count_text : ℕ → ℕ → List ℕ
count_text book passes = decimal book ++ (codes " entries, " ++ (decimal passes ++ codes " receipts"))

abbrev pub settle_fault_text : SettleFault → List ℕ
settle_fault_text (Strange at) = place_text (codes "strange receipt ") at []
settle_fault_text (Twice at) = place_text (codes "receipt ") at (codes " twice")
settle_fault_text (OutOfOrder seen got) = order_text seen got
settle_fault_text (Unlike at) = place_text (codes "another reply at ") at []
settle_fault_text (Count book passes) = count_text book passes
settle_fault_text OutOfMemory = codes "out of memory"
