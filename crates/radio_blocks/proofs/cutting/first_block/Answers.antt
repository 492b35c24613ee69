use Rattle.radio_blocks.proofs.BlockLemmas.{blocks_of-front}
use Rattle.radio_blocks.proofs.cutting.first_block.Goals as goal

pub returns-clause-blocks : goal.returns-clause-blocks
returns-clause-blocks c =
    rw (c.in_ok-block.ensures, c.split_at.ensures.front, c.split_at.ensures.back)
    (blocks_of-front c.args.bytes.now c.min.result c.requires c.min.ensures)
