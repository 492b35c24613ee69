use Rattle.std.proofs.Common.{◌≡◌, length}
use Rattle.std.specs.Option.{option_and_then}
use Rattle.radio_texts.specs.Cuts.{fields_at}
use Rattle.radio_addr.specs.Addresses.{groups_in, groups_of}
use Rattle.radio_addr.specs.Counts.{count_all}
use Rattle.radio_addr.proofs.groups.read_groups.Given as goal

-- the groups so far and those of the rest are those of the text
abbrev pub invariant-groups : goal.invariant-groups
invariant-groups l =
    option_and_then (count_all (l.groups.count, l.groups.number)) (groups_in l.with_quad (fields_at 58 l.rest))
    ≡ option_and_then (count_all (0, 0)) (groups_of l.with_quad l.text)

abbrev pub decreases-groups : goal.decreases-groups
decreases-groups l = length l.rest
