use Rattle.std.proofs.Common.{Ok, Option, Some, refl, subst, sym}
use Rattle.radio_floor.proofs.Words.{Connection, AnswersOn}
use Rattle.radio_floor.proofs.handler.HandlerRowVisitLabelled.visit.Goals as goal

pub returns : goal.returns
returns c =
    let answered = c.in_ok-answered.answered in
    let later = c.close_if_shut.new.connection in (
      refl,
      subst (λ (o : Option Connection). AnswersOn c.args.self.now.core c.args.input.now o (Ok (Some answered)) c.answer.new.self.core later)
          (sym c.in-Some.is) (answered, c.answer.new.connection, refl, c.close_if_shut.ensures, c.in_ok-answered.ensures),
    )
