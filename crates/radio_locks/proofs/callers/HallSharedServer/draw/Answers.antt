use Rattle.std.proofs.Common.{◌∙◌, sym}
use Rattle.radio_locks.proofs.Words.{Draw}
use Rattle.radio_locks.proofs.PassLemmas.{draw_refused, drawn}
use Rattle.radio_locks.proofs.callers.HallSharedServer.draw.Goals as goal

pub returns-else-KEEPS-clause-ok : goal.returns-else-KEEPS-clause-ok
returns-else-KEEPS-clause-ok g c =
    drawn g.C.Chronicle.KEEPS g.H.Origin.opening c.args.pass.now c.draw_unkept.new.pass (Draw c.args.id c.args.room) c.draw_unkept.result
    (sym c.KEEPS.ensures ∙ c.if-KEEPS.false) c.draw_unkept.ensures.legal c.draw_unkept.ensures.pass

pub returns-else-KEEPS-clause-refused : goal.returns-else-KEEPS-clause-refused
returns-else-KEEPS-clause-refused g c =
    draw_refused g.C.Chronicle.KEEPS c.args.pass.now c.args.id c.args.room c.draw_unkept.result (sym c.KEEPS.ensures ∙ c.if-KEEPS.false)
