use Rattle.std.proofs.Common.{◌≡◌, length}
use Rattle.radio_blocks.specs.Queue.{trimmed}
use Rattle.radio_blocks.proofs.queue.BlockQueue.trim.Given as goal

abbrev pub invariant-others : goal.invariant-others
invariant-others l = trimmed l.self ≡ trimmed l.fn.self

abbrev pub decreases-others : goal.decreases-others
decreases-others l = length l.self.blocks
