use Rattle.radio_locks.proofs.PassLemmas.{own_gains}
use Rattle.radio_locks.proofs.Replies.{tried_by}
use Rattle.radio_locks.proofs.hall.Hall.try_at.Goals as goal

pub returns-in-Some-deref_mut-clause-tried : goal.returns-in-Some-deref_mut-clause-tried
returns-in-Some-deref_mut-clause-tried g c =
    tried_by g.H.Origin.opening _ c.apply.new.self c.args.event c.apply.result c.apply.ensures.back c.apply.ensures.done

pub returns-in-Some-deref_mut-clause-gains : goal.returns-in-Some-deref_mut-clause-gains
returns-in-Some-deref_mut-clause-gains g c =
    own_gains g.C.Chronicle.KEEPS _ c.args.pass.now c.apply.new.pass c.args.event c.apply.result c.apply.ensures.pass c.apply.ensures.unkept
