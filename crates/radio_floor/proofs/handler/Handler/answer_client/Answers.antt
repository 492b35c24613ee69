use Rattle.std.proofs.Common.{ℕ, List, IfOk, subst, sym}
use Rattle.radio_floor.proofs.Words.{Input, Data, Client, AnswersAs, ComesToClient}
use Rattle.radio_floor.proofs.handler.Handler.answer_client.Goals as goal

pub returns-in-Data : goal.returns-in-Data
returns-in-Data c =
    let Comes = λ (input : Input). IfOk c.hear.result (λ answered. AnswersAs c.args.self.now.core c.hear.new.self.core answered (Client c.hear.new.connection)
    (λ state label done. ComesToClient state label c.args.connection.now input done)) in
    let heard : Comes (Data c.as_slice.result.now) = c.hear.ensures in
    subst Comes (sym c.in-Data.is) (subst (λ (bytes : List ℕ). Comes (Data bytes)) c.as_slice.ensures heard)
