use Rattle.std.proofs.Common.{◌≡◌, ◌+◌, ◌-◌, ◌<◌, ◌≤◌, ◌∙◌, ap, arith, ℕ, map}
use Rattle.std.specs.List.{concat}
use Rattle.std.proofs.lemmas.List.{length-map, drop_all}
use Rattle.std.proofs.lemmas.Bool.Decides.{nat_tests}
use Rattle.radio_blocks.specs.Queue.{shortest_tail}
use Rattle.radio_blocks.proofs.QueueLemmas.{shortest_from, shortest_none}
use Rattle.radio_blocks.proofs.PartLemmas.{sizes_before}
use Rattle.radio_blocks.proofs.kept.last_start.Goals as goal

pub returns-then-lag-eq0-clause-fewest : goal.returns-then-lag-eq0-clause-fewest
returns-then-lag-eq0-clause-fewest c =
    let slices = map concat c.args.chunks.now.items in
    let count = length-map c.args.chunks.now.items concat in
    let none : 0 ≡ c.args.lag = grind (arith, nat_tests, c.if-lag-eq0.true) in
    drop_all c.len-index.result slices (grind (arith, count, c.len-index.ensures))
    ∙ (shortest_none slices ∙ ap (λ (n : ℕ). shortest_tail n slices) none)

pub returns-then-left-size-clause-fewest : goal.returns-then-left-size-clause-fewest
returns-then-left-size-clause-fewest c =
    let chunks = c.args.chunks.now.items in
    let count = length-map chunks concat in
    let next : (c.index.index - 1) + 1 ≡ c.index.index = grind (arith, nat_tests, c.index-test.true) in
    let sizes = sizes_before chunks c.index-in-index.result.now (c.index.index - 1) c.index.index next c.index.invariant.0 c.index-in-index.ensures in
    let fits : c.index.left ≤ c.len-size.result = grind (arith, nat_tests, c.if-left-size.true) in
    shortest_from (map concat chunks) (c.index.index - 1) c.index.index c.args.lag
    (omega (arith, next, count, c.index.invariant.0)) (omega (arith, next))
    (omega (arith, c.index.invariant.1, c.index.invariant.2))
    (omega (arith, sizes, fits, c.index.invariant.1, c.len-size.ensures))

pub returns-then-left-size-clause-skip : goal.returns-then-left-size-clause-skip
returns-then-left-size-clause-skip c =
    let chunk = c.index-in-index.result.now in
    let next : (c.index.index - 1) + 1 ≡ c.index.index = grind (arith, nat_tests, c.index-test.true) in
    let sizes = sizes_before c.args.chunks.now.items chunk (c.index.index - 1) c.index.index next c.index.invariant.0 c.index-in-index.ensures in
    let fits : c.index.left ≤ c.len-size.result = grind (arith, nat_tests, c.if-left-size.true) in
    omega (arith, sizes, fits, c.index.invariant.1, c.len-size.ensures)

pub index-preserved : goal.index-preserved
index-preserved c =
    let next : (c.index.index - 1) + 1 ≡ c.index.index = grind (arith, nat_tests, c.index-test.true) in
    let sizes =
    sizes_before c.args.chunks.now.items c.index-in-index.result.now (c.index.index - 1) c.index.index next c.index.invariant.0 c.index-in-index.ensures in
    let more : c.len-size.result < c.index.left = grind (arith, nat_tests, c.if-left-size.false) in (
      omega (arith, c.index.invariant.0),
      omega (arith, sizes, more, c.index.invariant.1, c.len-size.ensures),
      omega (arith, more),
    )
