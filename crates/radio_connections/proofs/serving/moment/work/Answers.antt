use Rattle.std.proofs.Common.{refl, sym, ◌∙◌, ap}
use Rattle.radio_connections.specs.Connections.{Connection}
use Rattle.radio_connections.proofs.Calling.{later_same}
use Rattle.radio_connections.proofs.Deeds.{served_by_note, not_closed, not_cut, closed_not_ended, cut_not_ended}
use Rattle.radio_connections.proofs.Workings.{works_in_turn, ends_in_turn, rests_in_turn}
use Rattle.radio_connections.proofs.serving.moment.work.Goals as goal

pub returns-in-Open : goal.returns-in-Open
returns-in-Open g c =
    works_in_turn g.S.Server.steps c.conn.view_is c.in-Open.is refl refl refl refl refl refl refl refl
    (served_by_note _ _ (record { id = refl; sits = refl; left = refl }) (later_same refl refl refl)
    (record { id = refl; given = refl; taken = refl; outgoing = refl; session = refl }) refl)
    c.listen.ensures c.draw.ensures

pub returns-in-Ended : goal.returns-in-Ended
returns-in-Ended g c =
    ends_in_turn g.S.Server.steps c.args.server.now (sym (ap (λ (o : Connection). o.status.fate) c.conn.view_is) ∙ c.in-Ended.is) c.linger.ensures

pub returns-in-Closed : goal.returns-in-Closed
returns-in-Closed g c =
    let was = sym (ap (λ (o : Connection). o.status.fate) c.conn.view_is) ∙ c.in-Closed.is in
    rests_in_turn g.S.Server.steps c.args.server.now _ (λ goes. not_closed (sym was ∙ goes)) (λ ended. closed_not_ended (sym was ∙ ended))

pub returns-in-Cut : goal.returns-in-Cut
returns-in-Cut g c =
    let was = sym (ap (λ (o : Connection). o.status.fate) c.conn.view_is) ∙ c.in-Cut.is in
    rests_in_turn g.S.Server.steps c.args.server.now _ (λ goes. not_cut (sym was ∙ goes)) (λ ended. cut_not_ended (sym was ∙ ended))
