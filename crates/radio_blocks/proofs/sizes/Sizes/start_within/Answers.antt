use Rattle.std.proofs.Common.{rules, ◌-◌, ◌<◌, ◌≤◌, ◌∙◌, arith, length, drop}
use Rattle.std.proofs.lemmas.Bool.Decides.{nat_tests}
use Rattle.std.proofs.lemmas.List.{length-drop}
use Rattle.radio_blocks.proofs.QueueLemmas.{start_here}
use Rattle.radio_blocks.proofs.sizes.Sizes.start_within.Goals as goal

pub returns-then-end-start : goal.returns-then-end-start
returns-then-end-start c =
    let sizes = c.list-sizes.result.now.items in
    let inside : c.loop-i.i < length sizes = search rules in
    let left = length-drop c.loop-i.i sizes in
    let near : c.args.end - c.loop-i.start ≤ c.args.burst = grind (arith, nat_tests, c.if-end-start.true) in
    start_here c.args.end c.args.burst c.loop-i.start (drop c.loop-i.i sizes) (omega (arith, inside, left)) near ∙ c.loop-i.invariant.1
