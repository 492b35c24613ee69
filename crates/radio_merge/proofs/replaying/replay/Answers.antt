use Rattle.std.proofs.Common.{◌∙◌, List, get_or, sym, subst}
use Rattle.radio_merge.proofs.Words.{get_or_default, take_all, IfOk-weaker, World, opening, Family, Stamp, stamp, IsMerge, IsSoFar}
use Rattle.radio_merge.proofs.Steppings.{goes_on}
use Rattle.radio_merge.proofs.replaying.replay.Goals as goal

pub stamps-preserved : goal.stamps-preserved
stamps-preserved c =
    let now = c.stamps.replay in
    let next = c.step.new.self in
    let order = c.args.order.now in
    let i = c.stamps.stamp-index in
    let it = get_or order i (stamp 0 0) in (
      c.in_ok-step.ensures.family ∙ c.stamps.invariant.0,
      λ opening so.
          goes_on c.args.family.now now.family.now c.stamps.invariant.0 order i it c.stamps-test.true (get_or_default order i (stamp 0 0) it c.stamps-test.true) now.core next.core
          now.history.items next.history.items now.positions next.positions c.in_ok-step.ensures.so_far opening (c.stamps.invariant.1 opening so),
    )

pub returns-clause-merge : goal.returns-clause-merge
returns-clause-merge c =
    let family = c.args.family.now in
    let now = c.stamps.replay in
    let begun = opening c.args.settings c.args.lists in
    let so = c.stamps.invariant.1 begun c.in_ok-replay.ensures.so_far in
    let all : IsSoFar begun family.control.items family.mounts.items c.args.order.now now.core now.history.items now.positions =
    subst (λ (xs : List Stamp). IsSoFar begun family.control.items family.mounts.items xs now.core now.history.items now.positions)
    (take_all c.stamps.stamp-index c.args.order.now c.stamps-test.false) so in
    let here : IsSoFar begun now.family.now.control.items now.family.now.mounts.items c.args.order.now now.core now.history.items now.positions =
    subst (λ (f : Family). IsSoFar begun f.control.items f.mounts.items c.args.order.now now.core now.history.items now.positions) (sym c.stamps.invariant.0) all in
    IfOk-weaker c.end.result
    (λ history. (opening : World) (order : List Stamp)
    → IsSoFar opening now.family.now.control.items now.family.now.mounts.items order now.core now.history.items now.positions
    → IsMerge now.family.now.control.items now.family.now.mounts.items order history.items)
    (λ history. IsMerge family.control.items family.mounts.items c.args.order.now history.items)
    (λ history merge. subst (λ (f : Family). IsMerge f.control.items f.mounts.items c.args.order.now history.items) c.stamps.invariant.0
    (merge begun c.args.order.now here)) c.end.ensures.merge
