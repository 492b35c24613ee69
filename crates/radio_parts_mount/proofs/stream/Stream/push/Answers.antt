use Rattle.radio_parts_mount.proofs.KeptQueues.{pushed_to}
use Rattle.radio_parts_mount.proofs.stream.Stream.push.Goals as goal

pub returns-clause-ok : goal.returns-clause-ok
returns-clause-ok c =
    pushed_to c.self.inside.queue c.set_limit.new.self c.push.new.self c.args.self.now c.args.block c.args.limit c.set_limit.ensures c.self.view_is
    c.in_ok-push.ensures.ok
