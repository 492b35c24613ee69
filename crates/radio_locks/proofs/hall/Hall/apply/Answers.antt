use Rattle.radio_locks.proofs.PassLemmas.{receipted}
use Rattle.radio_locks.proofs.hall.Hall.apply.Goals as goal

pub returns-in-Ok-apply-clause-called : goal.returns-in-Ok-apply-clause-called
returns-in-Ok-apply-clause-called g c =
    receipted g.C.Chronicle.KEEPS g.H.Origin.opening c.args.pass.now c.apply.new.pass c.args.event c.in-Ok.copy c.in-Ok-apply.reply c.receipt.result
    c.in-Ok-apply.ensures.ok c.in-Ok.ensures.value c.receipt.ensures.entry c.receipt.ensures.kept c.receipt.ensures.unkept
