use Rattle.std.proofs.Common.{◌==◌, List, ℕ, length, sym, ◌∙◌, ap}
use Rattle.std.proofs.lemmas.Bool.{false≢true}
use Rattle.radio_connections.specs.Connections.{Connection}
use Rattle.radio_connections.proofs.Deeds.{empty_is}
use Rattle.radio_connections.proofs.TurnDeeds.{served_in_turn, kept_in_turn}
use Rattle.radio_connections.proofs.serving.moment.write_and_work.Goals as goal

pub returns-then-not-is_empty : goal.returns-then-not-is_empty
returns-then-not-is_empty g c = kept_in_turn g.S.Server.steps c.flush.ensures
    (λ none. false≢true (sym c.if-not-is_empty.true ∙ c.is_empty.ensures
    ∙ ap (λ (xs : List ℕ). length xs == 0) (c.rest.ensures ∙ ap (λ (o : Connection). o.outgoing) c.conn.view_is ∙ none)))
    c.give_up.ensures.patient c.leave.ensures

pub returns : goal.returns
returns g c = served_in_turn g.S.Server.steps c.flush.ensures
    (empty_is c.flush.new.conn.outgoing
    (sym (ap (λ (xs : List ℕ). length xs == 0) (c.rest.ensures ∙ ap (λ (o : Connection). o.outgoing) c.conn.view_is)) ∙ sym c.is_empty.ensures
    ∙ c.if-not-is_empty.false))
    c.work.ensures c.end_turn.ensures.leaves c.end_turn.ensures.flushes c.end_turn.ensures.again
