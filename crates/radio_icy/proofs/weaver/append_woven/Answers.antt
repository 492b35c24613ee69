use Rattle.std.proofs.Common.{◌≡◌, ℕ, ◌+◌, ◌<◌, ◌++◌, length, vec_len, List, Option, arith, ap, ◌∙◌, sym}
use Rattle.std.proofs.lemmas.Result.{err_from_is_err_and}
use Rattle.std.specs.Option.{option_copied}
use Rattle.radio_icy.specs.Block.{metadata_block}
use Rattle.radio_icy.specs.Weaving.{Weaving, from_place, woven, after_weaving}
use Rattle.radio_icy.proofs.WeavingLemmas.{woven_turn, place_turn, woven_part, after_part, front_of_front, front_more, front_fits, written_turn}
use Rattle.radio_icy.proofs.weaver.append_woven.Goals as goal

pub returns-in_err-append_block-clause-err : goal.returns-in_err-append_block-clause-err
returns-in_err-append_block-clause-err c =
    let p = err_from_is_err_and c.from_residual-in_err-append_block.result c.from_residual-in_err-append_block.ensures.1 in
    let kept = rw (← c.in_ok-extend_from_slice.ensures.items) at
    (front_more (vec_len c.args.out.now) c.args.out.now.items c.intervals.out.items c.split_at.result.0.now c.args.out.now.ok.0 c.intervals.invariant.4) in
    rw p.1 (front_of_front _ _ _ _ _
    (omega (
      arith,
      front_fits _ _ _ c.args.out.now.ok.0 c.intervals.invariant.4,
      c.in_ok-extend_from_slice.ensures.len,
      c.intervals.out.ok.0,
    )) kept c.in_err-append_block.ensures.err)

pub intervals-preserved : goal.intervals-preserved
intervals-preserved c =
    let part : List ℕ = c.split_at.result.0.now in
    let later : List ℕ = c.split_at.result.1.now in
    let n : ℕ = c.args.interval in
    let place : ℕ = c.intervals.place in
    let news : Option (List ℕ) = option_copied c.intervals.news in
    let inside : place < n = c.intervals.invariant.0 in
    let whole : place + length part ≡ n = omega (arith, c.split_at.ensures.front_len) in
    let rest_is : c.intervals.rest.now ≡ part ++ later = c.split_at.ensures.by_index.0 in
    let turn = ap (woven (from_place n place) news) rest_is ∙ woven_turn n place news part later inside whole in
    let moves = ap (λ (s : List ℕ). (after_weaving (from_place n place) news s).place) rest_is ∙ place_turn n place news part later inside whole in (
      omega arith,
      tt,
      written_turn c.intervals.out.items part (metadata_block news) _ _ _ _ c.in_ok-extend_from_slice.ensures.items c.in_ok-append_block.ensures.ok turn
          ∙ c.intervals.invariant.2,
      sym moves ∙ c.intervals.invariant.3,
      rw (c.in_ok-append_block.ensures.ok, c.in_ok-extend_from_slice.ensures.items)
          (front_more _ _ _ (metadata_block news) c.args.out.now.ok.0 (front_more _ _ _ part c.args.out.now.ok.0 c.intervals.invariant.4)),
    )

pub returns-clause-woven : goal.returns-clause-woven
returns-clause-woven c =
    let short : c.intervals.place + length c.intervals.rest.now < c.args.interval = omega arith in
    c.in_ok-extend_from_slice-2.ensures.items
    ∙ (ap (λ (s : List ℕ). c.intervals.out.items ++ s)
    (sym (woven_part (from_place c.args.interval c.intervals.place) (option_copied c.intervals.news) c.intervals.rest.now short))
    ∙ c.intervals.invariant.2)

pub returns-clause-place : goal.returns-clause-place
returns-clause-place c =
    let short : c.intervals.place + length c.intervals.rest.now < c.args.interval = omega arith in
    sym (ap (λ (w : Weaving). w.place)
    (after_part (from_place c.args.interval c.intervals.place) (option_copied c.intervals.news) c.intervals.rest.now short)) ∙ c.intervals.invariant.3
