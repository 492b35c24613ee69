use Rattle.std.proofs.Common.{◌≡◌, refl, ◌∙◌, ap}
use Rattle.radio_connections.specs.declared.conn.Fate.TheVariants.{Ended}
use Rattle.radio_connections.specs.Connections.{Connection}
use Rattle.radio_connections.proofs.Lingerings.{answered_as}
use Rattle.radio_connections.proofs.Calling.{later_by_read, read_by, read_once_as}
use Rattle.radio_connections.proofs.Deeds.{served_as, served_by_read_on}
use Rattle.radio_connections.proofs.serving.lingering.pass_over.Goals as goal

pub returns-clause-served : goal.returns-clause-served
returns-clause-served g c =
    let ended : c.conn.inside.status.fate ≡ Ended = ap (λ (o : Connection). o.status.fate) c.conn.view_is ∙ c.requires in
    served_as c.conn.view_is
    (served_by_read_on _ _ c.read.result c.read.new.buffer (record { id = refl; sits = refl; left = refl })
    (later_by_read c.read.result _ c.read.ensures.calls c.read.ensures.taken refl) ended c.read.ensures.given c.read.ensures.taken refl refl ended)

pub returns-clause-once : goal.returns-clause-once
returns-clause-once g c = read_once_as c.conn.view_is (read_by c.read.result c.read.ensures.calls (c.read.auto.buffer ∙ c.told-buffer))

pub returns-clause-answer : goal.returns-clause-answer
returns-clause-answer g c = answered_as c.read.result _ c.conn.view_is c.read.ensures.calls
