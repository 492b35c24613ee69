use Rattle.std.proofs.Common.{◌≡◌, ℕ, true, false, drop, List, sym, refl, arith}
use Rattle.radio_icy.specs.Titles.{title_of, ends_title}
use Rattle.radio_icy.proofs.TitlesLemmas.{title_found, title_passed, title_missing}
use Rattle.radio_icy.proofs.title.title_of.Goals as goal

pub returns-then-not-starts_with : goal.returns-then-not-starts_with
unfolding title_of
returns-then-not-starts_with c = rw (← c.if-not-starts_with.ensures.value) refl

pub returns-then-ends_title : goal.returns-then-ends_title
unfolding title_of
returns-then-ends_title c =
    let body : List ℕ = c.split_at.result.1.now in
    let ends : ends_title (drop c.loop-end.end body) ≡ true = rw c.split_at-in-loop-end.ensures.back at (sym c.if-ends_title.ensures) in
    rw (← c.if-not-starts_with.ensures.value, ← c.split_at.ensures.back, c.split_at-in-loop-end.ensures.front)
    (title_found body c.loop-end.end c.loop-end-test.true ends c.loop-end.invariant)

pub loop-end-preserved : goal.loop-end-preserved
loop-end-preserved c =
    let body : List ℕ = c.split_at.result.1.now in
    let goes : ends_title (drop c.loop-end.end body) ≡ false = rw c.split_at-in-loop-end.ensures.back at (sym c.if-ends_title.ensures) in
    title_passed body c.loop-end.end c.loop-end-test.true goes c.loop-end.invariant

pub returns : goal.returns
unfolding title_of
returns c =
    let body : List ℕ = c.split_at.result.1.now in
    rw (← c.if-not-starts_with.ensures.value, ← c.split_at.ensures.back)
    (title_missing body c.loop-end.end (omega arith) c.loop-end.invariant)
