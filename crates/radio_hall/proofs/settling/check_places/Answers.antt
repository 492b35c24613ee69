use Rattle.std.proofs.Common.{inl, subst}
use Rattle.radio_hall.proofs.Words.{HasNoTwins, all_stamps}
use Rattle.radio_hall.proofs.Twins.{each_once}
use Rattle.radio_hall.proofs.settling.check_places.Goals as goal

pub returns-in-Some-find_fall-clause-fault : goal.returns-in-Some-find_fall-clause-fault
returns-in-Some-find_fall-clause-fault g c w =
    let once = each_once (all_stamps c.args.passes.now) c.in-Ok.sorted.items c.in-Ok.ensures.permutation c.in-Ok.ensures.sorted
    (subst HasNoTwins c.as_slice.ensures.value c.in_default-find_twins.ensures.none) in
    (c.in_default.ensures.none, (once, inl c.in-Some-find_fall.ensures.some))

pub returns-clause-once : goal.returns-clause-once
returns-clause-once g c = each_once (all_stamps c.args.passes.now) c.in-Ok.sorted.items c.in-Ok.ensures.permutation c.in-Ok.ensures.sorted
    (subst HasNoTwins c.as_slice.ensures.value c.in_default-find_twins.ensures.none)
