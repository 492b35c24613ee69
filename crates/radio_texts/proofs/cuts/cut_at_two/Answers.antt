use Rattle.std.proofs.Common.{◌≡◌, ℕ, true, false, drop, List, sym, arith}
use Rattle.radio_texts.specs.Cuts.{cut_at_two}
use Rattle.radio_texts.proofs.CutsLemmas.{begins_twice, cut_passed, cut_found, cut_missing, after_front-nil, cut_at_two-is}
use Rattle.radio_texts.proofs.cuts.cut_at_two.Goals as goal

pub loop-place-init : goal.loop-place-init
loop-place-init c = after_front-nil (cut_at_two c.args.at c.args.text.now)

pub returns-then-starts_with : goal.returns-then-starts_with
returns-then-starts_with c =
    let text : List ℕ = c.args.text.now in
    let two : begins_twice c.args.at (drop c.loop-place.place text) ≡ true = rw c.split_at.ensures.back at (sym c.if-starts_with.ensures.value) in
    rw (c.split_at.ensures.front, c.split_at-then-starts_with.ensures.back, c.split_at.ensures.back)
    (cut_found (cut_at_two c.args.at) (begins_twice c.args.at) 2
    (cut_at_two-is c.args.at) text c.loop-place.place c.loop-place-test.true two c.loop-place.invariant)

pub loop-place-preserved : goal.loop-place-preserved
loop-place-preserved c =
    let text : List ℕ = c.args.text.now in
    let other : begins_twice c.args.at (drop c.loop-place.place text) ≡ false = rw c.split_at.ensures.back at (sym c.if-starts_with.ensures.value) in
    cut_passed (cut_at_two c.args.at) (begins_twice c.args.at) 2
    (cut_at_two-is c.args.at) text c.loop-place.place c.loop-place-test.true other c.loop-place.invariant

pub returns : goal.returns
returns c = cut_missing (cut_at_two c.args.at) (begins_twice c.args.at) 2 (cut_at_two-is c.args.at) c.args.text.now c.loop-place.place
    (omega arith) c.loop-place.invariant
