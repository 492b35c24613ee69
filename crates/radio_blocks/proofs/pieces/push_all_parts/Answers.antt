use Rattle.std.proofs.Common.{rules, ◌<◌, ◌≤◌, ◌∙◌, arith, length}
use Rattle.radio_blocks.proofs.PartLemmas.{parts_more, still_front, bytes_pushed, pushed_full, pushed_last}
use Rattle.std.proofs.lemmas.Bool.Decides.{nat_tests}
use Rattle.radio_blocks.proofs.pieces.push_all_parts.Goals as goal

pub index-preserved : goal.index-preserved
index-preserved c =
    let chunks = c.args.chunks.now.items in
    let chunk = c.index-chunk.result.now in
    let inside : c.index.index < length chunks = search rules in (
      c.index.invariant.0,
      parts_more chunks chunk c.index.slices.items c.push_parts.new.slices.items c.index.index c.index.skip c.index.left c.len-size.result
          c.saturating_sub-skip.result c.saturating_sub-left.result inside c.index-chunk.ensures c.len-size.ensures c.in_default.ensures.ok
          c.saturating_sub-skip.ensures (omega (arith, c.saturating_sub.ensures, c.saturating_sub-left.ensures))
          ∙ c.index.invariant.1,
      still_front c.args.slices.now.items c.index.slices.items c.push_parts.new.slices.items c.index.invariant.2 c.in_default.ensures.kept,
    )

pub returns-after-index-clause-ok : goal.returns-after-index-clause-ok
returns-after-index-clause-ok c = pushed_full c.index.slices.items _ c.index.skip c.index.left _ c.index-test.false c.index.invariant.1

pub returns-after-index-clause-bytes : goal.returns-after-index-clause-bytes
returns-after-index-clause-bytes c =
    bytes_pushed c.args.chunks.now.items c.args.slices.now.items c.index.slices.items c.args.index c.args.skip c.args.room
    (pushed_full c.index.slices.items _ c.index.skip c.index.left _ c.index-test.false c.index.invariant.1)

pub returns-else-index-len-clause-bytes : goal.returns-else-index-len-clause-bytes
returns-else-index-len-clause-bytes c =
    let behind : length c.args.chunks.now.items ≤ c.index.index = grind (arith, nat_tests, c.if-index-len.false, c.len.ensures) in
    bytes_pushed c.args.chunks.now.items c.args.slices.now.items c.index.slices.items c.args.index c.args.skip c.args.room
    (pushed_last c.index.slices.items _ c.index.skip c.index.left c.index.index c.args.chunks.now.items behind c.index.invariant.1)
