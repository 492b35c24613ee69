use Rattle.std.proofs.Common.{arith}
use Rattle.radio_blocks.proofs.QueueLemmas.{one_more}
use Rattle.radio_blocks.proofs.queue.BlockQueue.push.Goals as goal

pub invariant_of-self-2 : goal.invariant_of-self-2
invariant_of-self-2 c =
    let sizes = one_more c.self.inside.blocks c.push.new.self c.args.block c.in_default.ensures.ok in
    omega (arith, sizes, c.self.invariant, c.len.ensures.value)
