use Rattle.radio_relay.proofs.PullLemmas.{answered-stream}
use Rattle.radio_relay.proofs.pull.brought_at.Goals as goal

pub returns-in-Behind-clause-brings : goal.returns-in-Behind-clause-brings
returns-in-Behind-clause-brings c =
    answered-stream c.read_stream.result (λ x. x.items.items) (λ x. x.stage) c.args.stage c.in-Behind.stream c.args.bytes.now c.new.result c.in-Behind.is
    c.new.ensures c.read_stream.ensures.items c.read_stream.ensures.stage
