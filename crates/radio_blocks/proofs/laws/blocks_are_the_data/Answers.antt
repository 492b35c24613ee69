use Rattle.radio_blocks.proofs.BlockLemmas.{blocks_of-first, blocks_of-nil, blocks_of-concat, blocks_of-IsBlock}
use Rattle.radio_blocks.proofs.laws.blocks_are_the_data.Goals as goal

pub returns-clause-joined : goal.returns-clause-joined
returns-clause-joined c = blocks_of-concat

pub returns-clause-valid : goal.returns-clause-valid
returns-clause-valid c = blocks_of-IsBlock

pub returns-clause-first : goal.returns-clause-first
returns-clause-first c = blocks_of-first

pub returns-clause-none : goal.returns-clause-none
returns-clause-none c = blocks_of-nil
