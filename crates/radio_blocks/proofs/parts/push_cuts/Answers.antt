use Rattle.std.proofs.Common.{rules, refl, ◌+◌, ◌-◌, ◌<◌, ◌∙◌, ◌++◌, ap, arith, ℕ, length, take, drop}
use Rattle.radio_blocks.specs.Parts.{slice_of}
use Rattle.radio_blocks.proofs.PartLemmas.{cuts_more, total_from, still_in_front, pushed_full}
use Rattle.radio_blocks.proofs.parts.push_cuts.Goals as goal

pub overflow_add-from : goal.overflow_add-from
overflow_add-from c =
    let inside : c.index.index < length c.args.sizes.now.items = search rules in
    let all = total_from c.args.sizes.now.items c.index.index c.index-in-index.result.now inside c.index-in-index.ensures in
    omega (arith, all, c.index.invariant.0, c.requires, c.min-before.ensures)

pub overflow_add-from-in-index : goal.overflow_add-from-in-index
overflow_add-from-in-index c =
    let inside : c.index.index < length c.args.sizes.now.items = search rules in
    let all = total_from c.args.sizes.now.items c.index.index c.index-in-index.result.now inside c.index-in-index.ensures in
    omega (arith, all, c.index.invariant.0, c.requires)

pub index-preserved : goal.index-preserved
index-preserved c =
    let sizes = c.args.sizes.now.items in
    let bytes = c.args.bytes.now in
    let inside : c.index.index < length sizes = search rules in
    let size = c.index-in-index.result.now in
    let all = total_from sizes c.index.index size inside c.index-in-index.ensures in
    let pushed = c.in_ok-push_part.ensures.ok
    ∙ ap (λ (n : ℕ). c.index.slices.items ++ slice_of (take n (drop (c.index.from + c.min-before.result) bytes))) c.min.ensures in (
      omega (arith, all, c.index.invariant.0),
      cuts_more sizes bytes c.index.slices.items c.push_part.new.slices.items c.index.index c.index.from c.index.skip c.index.left size
          c.min-before.result (c.index.skip - c.min-before.result) c.saturating_sub-left.result inside c.index-in-index.ensures c.index.invariant.0
          c.min-before.ensures pushed refl c.saturating_sub-left.ensures
          ∙ c.index.invariant.1,
      still_in_front c.args.slices.now.items c.index.slices.items c.push_part.new.slices.items _ c.index.invariant.2 pushed,
    )

pub returns-after-index-clause-ok : goal.returns-after-index-clause-ok
returns-after-index-clause-ok c = pushed_full c.index.slices.items _ c.index.skip c.index.left _ c.index-test.false c.index.invariant.1
