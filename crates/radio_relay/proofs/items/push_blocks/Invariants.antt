use Rattle.std.proofs.Common.{◌≡◌, ◌++◌, map}
use Rattle.radio_relay.proofs.Words.{into_iter_items, Sound}
use Rattle.radio_relay.proofs.items.push_blocks.Given as goal

-- the items so far and those of the blocks that are left are those of all
abbrev pub invariant-loop-block : goal.invariant-loop-block
invariant-loop-block l = l.items.items ++ map Sound (into_iter_items l.block-iterator) ≡ l.initial.items.items ++ map Sound l.fn.blocks.items
