use Rattle.radio_masters.proofs.AtMostEntries.{taken_at_most}
use Rattle.radio_masters.proofs.mount_pull.apply_some.Goals as goal

pub returns-in-Err-clause-comes : goal.returns-in-Err-clause-comes
returns-in-Err-clause-comes g c = taken_at_most g.S.Server.steps g.S.Server.refuses c.args.relay.now c.args.bytes.now c.args.server.now c.take.new.relay
    c.take.new.server c.requires c.in-Err.ensures.err
