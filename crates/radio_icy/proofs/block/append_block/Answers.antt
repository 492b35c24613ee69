use Rattle.std.proofs.Common.{rules}
use Rattle.radio_icy.specs.Block.{metadata_block}
use Rattle.radio_icy.proofs.block.append_block.Goals as goal

pub returns-in_ok-push-in-None-clause-ok : goal.returns-in_ok-push-in-None-clause-ok
unfolding metadata_block
returns-in_ok-push-in-None-clause-ok c = search rules
