use Rattle.std.proofs.Common.{◌≡◌}
use Rattle.radio_floor.proofs.Words.{IfOk-weaker, EventReading, IsHeard, Client, exchanges, AnswersAs}
use Rattle.radio_floor.proofs.handler.Handler.hear.Goals as goal

pub returns : goal.returns
returns c =
    let heard : EventReading = record { events = c.in_ok-events.events.items; conversation = c.take.new.self } in
    let old = c.args.self.now.core in
    let new = c.exchange.new.self.core in
    IfOk-weaker c.exchange.result
    (λ answered. AnswersAs old new answered (Client c.exchange.new.connection) (λ state label done. exchanges state label heard.conversation heard.events ≡ done))
    (λ answered. AnswersAs old new answered (Client c.exchange.new.connection)
    (λ state label done. (h : EventReading) × IsHeard c.args.connection.now c.args.bytes.now h × (exchanges state label h.conversation h.events ≡ done)))
    (λ answered answers w stands.
    let a = answers w stands in
    (a.0, a.1, λ connections label. (heard, c.in_ok-events.ensures.events, a.2 connections label)))
    c.exchange.ensures
