use Rattle.std.proofs.Common.{◌≡◌, List, [], ◌∷◌, ◌++◌, IfOk, ap, subst, ◌∙◌}
use Rattle.radio_floor.proofs.Words.{Event, Client, exchanges, AnswersAs}
use Rattle.radio_floor.proofs.handler.Handler.event.Goals as goal

pub returns : goal.returns
returns c =
    let events : c.push.new.self.items ≡ c.args.event ∷ [] =
    c.in_ok-push.ensures.items ∙ ap (λ (xs : List Event). xs ++ c.args.event ∷ []) c.new-events.ensures.items in
    subst (λ (xs : List Event). IfOk c.exchange.result (λ answered. AnswersAs c.args.self.now.core c.exchange.new.self.core answered (Client c.exchange.new.connection)
    (λ state label done. exchanges state label c.args.connection.now xs ≡ done))) events c.exchange.ensures
