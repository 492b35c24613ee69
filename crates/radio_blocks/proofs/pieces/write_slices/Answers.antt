use Rattle.std.proofs.Common.{◌∙◌}
use Rattle.radio_blocks.proofs.BlockLemmas.{slices_more}
use Rattle.radio_blocks.proofs.pieces.write_slices.Goals as goal

pub loop-slice-preserved : goal.loop-slice-preserved
loop-slice-preserved c = (
  c.loop-slice.invariant.0,
  slices_more c.args.slices.now c.loop-slice.slice-index c.slice-item.result c.args.out.now.items c.loop-slice.out.items c.extend_from_slice.new.self.items
      c.as_slice.result.now c.loop-slice-test.true (c.as_slice.ensures ∙ c.slice-item.is) c.loop-slice.invariant.1 c.in_default.ensures.items,
)
