use Rattle.std.proofs.Common.{inl, refl, sym, ◌∙◌, ap}
use Rattle.radio_connections.specs.Connections.{Connection, is_open}
use Rattle.radio_connections.proofs.DeedChains.{leaves_nothing, leaves_not, leaves_as, leaves_so}
use Rattle.radio_connections.proofs.serving.leaving.leave_over.Goals as goal

pub returns-then-conn : goal.returns-then-conn
returns-then-conn g c =
    leaves_nothing g.S.Server.steps refl (λ over. inl (sym (ap (λ (o : Connection). o.status.has_left) c.conn.view_is) ∙ c.if-conn.true))

pub returns-then-asks_to_leave : goal.returns-then-asks_to_leave
returns-then-asks_to_leave g c =
    leaves_as g.S.Server.steps c.conn.view_is
    (leaves_so g.S.Server.steps _ _ _ _ c.if-asks_to_leave.ensures.0 (ap (λ (o : Connection). is_open o.status.fate) c.conn.view_is ∙ c.requires) c.if-conn.false
    (record { id = refl; given = refl; taken = refl; outgoing = refl; session = refl }) refl c.if-asks_to_leave.ensures.1 refl refl refl refl)

pub returns-else-asks_to_leave : goal.returns-else-asks_to_leave
returns-else-asks_to_leave g c =
    leaves_as g.S.Server.steps c.conn.view_is
    (leaves_not g.S.Server.steps c.if-asks_to_leave.ensures.0 (record { id = refl; sits = refl; left = refl })
    (record { id = refl; given = refl; taken = refl; outgoing = refl; session = refl }) refl c.if-asks_to_leave.ensures.1 refl refl)
