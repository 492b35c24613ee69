use Rattle.std.proofs.Common.{sym, ◌∙◌, ap, refl}
use Rattle.radio_connections.specs.Connections.{Connection}
use Rattle.radio_connections.proofs.Deeds.{open_from}
use Rattle.radio_connections.proofs.DeedChains.{leaves_nothing}
use Rattle.radio_connections.proofs.serving.leaving.leave.Goals as goal

pub returns-then-is_open : goal.returns-then-is_open
returns-then-is_open g c =
    leaves_nothing g.S.Server.steps refl
    (λ over. absurd (over (sym (ap (λ (o : Connection). o.status.fate) c.conn.view_is) ∙ open_from _ (sym c.is_open.ensures ∙ c.if-is_open.true))))
