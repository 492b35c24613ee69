use Rattle.std.proofs.Common.{◌-◌, nat_le, refl, sym, ◌∙◌, ap}
use Rattle.std.proofs.lemmas.Bool.{false≢true}
use Rattle.radio_connections.specs.Connections.{Connection}
use Rattle.radio_connections.specs.Duties.{draw_room_for}
use Rattle.radio_connections.proofs.Deeds.{not_over}
use Rattle.radio_connections.proofs.Askings.{long_by}
use Rattle.radio_connections.proofs.DeedChains.{draws_nothing, draws_as, draws_after}
use Rattle.radio_connections.proofs.serving.drawing.draw.Goals as goal

pub returns-then-not-is_open : goal.returns-then-not-is_open
returns-then-not-is_open g c =
    let over = λ (goes : _). not_over c.conn.inside.status.fate (sym c.is_open.ensures ∙ c.if-not-is_open.true) (ap (λ (o : Connection). o.status.fate) c.conn.view_is
    ∙ goes) in
    draws_nothing g.S.Server.steps c.args.now.ms c.args.now.news c.args.server.now c.args.conn.now (λ new sits goes. over goes) (λ more sits goes. over goes)
    (λ long goes. over goes)

pub returns-then-not-is_due : goal.returns-then-not-is_due
returns-then-not-is_due g c =
    draws_nothing g.S.Server.steps c.args.now.ms c.args.now.news c.args.server.now c.args.conn.now
    (λ new sits goes. false≢true (sym c.if-not-is_due.true
    ∙ c.is_due.ensures.news (ap (λ (o : Connection). o.status.sits) c.conn.view_is ∙ sits) new))
    (λ more sits goes. false≢true (sym c.if-not-is_due.true
    ∙ c.is_due.ensures.more (ap (λ (o : Connection). o.status.sits) c.conn.view_is ∙ sits) (ap (λ (o : Connection). o.status.is_behind) c.conn.view_is ∙ more)))
    (λ long goes. false≢true (sym c.if-not-is_due.true
    ∙ c.is_due.ensures.unasked
    (ap (λ (o : Connection). nat_le 500 (c.args.now.ms - o.status.asked_ms)) c.conn.view_is ∙ long_by long)))

pub returns-then-conn : goal.returns-then-conn
returns-then-conn g c =
    draws_as g.S.Server.steps c.conn.view_is
    (draws_after g.S.Server.steps (sym c.is_open.ensures ∙ c.if-not-is_open.false)
    (λ sits. refl) (sym (ap draw_room_for c.if-conn.true)) c.draw_for.ensures)

pub returns-else-conn : goal.returns-else-conn
returns-else-conn g c =
    draws_as g.S.Server.steps c.conn.view_is
    (draws_after g.S.Server.steps (sym c.is_open.ensures ∙ c.if-not-is_open.false)
    (λ sits. absurd (false≢true (sym c.if-conn.false ∙ sits))) (sym (ap draw_room_for c.if-conn.false)) c.draw_for-else-conn.ensures)
