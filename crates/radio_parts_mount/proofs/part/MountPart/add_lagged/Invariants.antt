use Rattle.std.proofs.Common.{◌≡◌, length}
use Rattle.radio_parts_mount.proofs.Words.{with_all}
use Rattle.radio_parts_mount.proofs.part.MountPart.add_lagged.Given as goal

-- once the rest are put in too, all are
abbrev pub invariant-lagging : goal.invariant-lagging
invariant-lagging l =
    record l.self { lagged = with_all l.lagging l.self.lagged } ≡ record l.initial.self { lagged = with_all l.initial.lagging l.initial.self.lagged }

abbrev pub decreases-lagging : goal.decreases-lagging
decreases-lagging l = length l.lagging
