use Rattle.radio_merge.proofs.Words.{opening}
use Rattle.radio_merge.proofs.Steppings.{begins}
use Rattle.radio_merge.proofs.replaying.Stepping.new.Goals as goal

pub returns-in-Ok-clause-so_far : goal.returns-in-Ok-clause-so_far
returns-in-Ok-clause-so_far c =
    let family = c.args.family.now in
    begins (opening c.args.settings c.args.lists) family.control.items family.mounts.items c.new-in-Ok.result c.new-in-Ok-2.result.items c.in-Ok.positions
    c.new-in-Ok-2.ensures.items c.in-Ok.ensures c.new-in-Ok.ensures
