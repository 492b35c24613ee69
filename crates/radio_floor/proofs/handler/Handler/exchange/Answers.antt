use Rattle.std.proofs.Common.{◌≡◌, List, ◌++◌, ℕ, ap, subst, ◌∙◌}
use Rattle.radio_floor.proofs.Words.{World, DeliveryAnswer, Client, exchanges, AnswersAs}
use Rattle.radio_floor.proofs.AnsweredLemmas.{answers_exchanged}
use Rattle.radio_floor.proofs.handler.Handler.exchange.Goals as goal

pub returns : goal.returns
returns c =
    let e = c.in_ok-state.ensures in
    let before = c.args.connection.now in
    let answered : DeliveryAnswer = record { bytes = c.exchange.new.out; state = c.in_ok-state.state } in
    subst (λ (core : World). AnswersAs core c.exchange.new.server answered (Client c.exchange.new.session)
    (λ state label done. exchanges state label before c.args.events.items ≡ done)) c.empty_answer-bytes.ensures.core
    (answers_exchanged c.empty_answer-bytes.new.self.core c.exchange.new.server before c.exchange.new.session c.args.events.items answered e.0
    c.cores_exchange_as_their_states.ensures e.1 (e.2 ∙ ap (λ (xs : List ℕ). xs ++ e.0.bytes) c.empty_answer-bytes.ensures.bytes) e.3 e.4)
