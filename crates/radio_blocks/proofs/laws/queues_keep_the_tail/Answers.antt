use Rattle.radio_blocks.proofs.QueueLemmas.{tail_after-shortest, tail_after-stream, tail_after-end}
use Rattle.radio_blocks.proofs.laws.queues_keep_the_tail.Goals as goal

pub returns-clause-shortest : goal.returns-clause-shortest
returns-clause-shortest c = tail_after-shortest

pub returns-clause-bytes : goal.returns-clause-bytes
returns-clause-bytes c = tail_after-stream

pub returns-clause-ends : goal.returns-clause-ends
returns-clause-ends c = tail_after-end
