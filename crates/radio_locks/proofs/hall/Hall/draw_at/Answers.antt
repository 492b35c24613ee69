use Rattle.radio_locks.proofs.Words.{Draw}
use Rattle.radio_locks.proofs.Replies.{drawn_by}
use Rattle.radio_locks.proofs.hall.Hall.draw_at.Goals as goal

pub returns : goal.returns
returns g c =
    drawn_by g.H.Origin.opening _ c.draw.new.self (Draw c.args.id c.args.room) c.draw.result c.draw.ensures.done
