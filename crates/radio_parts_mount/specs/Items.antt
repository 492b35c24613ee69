-- The items of a mount's list.
use Rattle.std.specs.Prelude.{Bool, true, false, Option, Some, None}
use Rattle.radio_policy.specs.declared.rule.Rule.{Rule}
use Rattle.radio_policy.specs.declared.rule.Rule.TheVariants.{Lagged}
use Rattle.radio_events.specs.declared.entry.Entry.{Entry}
use Rattle.radio_parts_mount.specs.declared.item.MountItem.{MountItem}
use Rattle.radio_parts_mount.specs.declared.item.MountItem.TheVariants.{Detach, Own}

-- the rule by which a push, and nothing else, finishes listeners
abbrev pub is_lagged : Option Rule → Bool
is_lagged (Some Lagged) = true
is_lagged rule = false

-- an end that a push made is no entry of a merge
abbrev pub is_left_out : MountItem → Bool
is_left_out (Detach id grant rule) = is_lagged rule
is_left_out item = false

-- the own entry of whoever has a grant
abbrev pub own_entry : MountItem → Option Entry
own_entry (Own grant moment entry) = Some entry
own_entry item = None
