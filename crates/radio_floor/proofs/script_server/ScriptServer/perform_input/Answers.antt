use Rattle.std.proofs.Common.{◌≡◌, [], None, Option, Result, Ok, Some, append-nil, ap, subst, sym, ◌∙◌}
use Rattle.std.specs.declared.alloc.AllocError.{AllocError}
use Rattle.radio_floor.proofs.Words.{World, Represents, To, Input, DeliveryAnswer, Labelled, AnswersUnder, has_label, written_lines}
use Rattle.radio_tables.proofs.VisitLaws.{was_visited}
use Rattle.radio_tables.specs.Visits.{IsVisited}
use Rattle.radio_floor.specs.declared.handler.Handler.{Handler}
use Rattle.radio_floor.proofs.VisitLemmas.{shut-label, answered-label, performs-written}
use Rattle.radio_floor.proofs.script_server.ScriptServer.perform_input.Goals as goal

abbrev Answer : Type 0
Answer = Result (Option DeliveryAnswer) AllocError

abbrev Visits : Handler → Input → Labelled → Answer → Handler → Labelled → Type 0
Visits handler input row answer handler' row' = AnswersUnder handler.core input row answer handler'.core row'

-- its connection was shut
pub returns-in-Some-Ok-None-clause-performs : goal.returns-in-Some-Ok-None-clause-performs
returns-in-Some-Ok-None-clause-performs c =
    let old = c.args.self.now in
    let label = c.args.label in
    let input = c.args.input.now in
    let is : c.visit.result ≡ Some (Ok None) =
    c.in-Some-Ok-None.is ∙ ap (λ (a : Answer). Some a) (c.in-Some-Ok-None.field-0-is ∙ ap (λ (t : Option DeliveryAnswer). Ok t) c.in-Some-Ok-None.field-0-0-is) in
    let visited = was_visited Visits (has_label label) old.handler input old.connections c.visit.new.visitor c.visit.new.self (Ok None)
    (subst (λ (a : Option Answer). IsVisited Visits (has_label label) old.handler input old.connections a c.visit.new.visitor c.visit.new.self)
    is c.visit.ensures) in
    let shut = shut-label label input old.connections c.visit.new.self old.handler.core c.visit.new.visitor.core visited.0 visited.1 visited.2 visited.3
    visited.4 in
    ([], sym (append-nil c.args.lines.now.items), λ w stands. (w, subst (λ (core : World). Represents core w) (sym shut.0) stands, shut.1 w))

-- its connection is there
pub returns-in-Some-Ok-Some-clause-performs : goal.returns-in-Some-Ok-Some-clause-performs
returns-in-Some-Ok-Some-clause-performs c =
    let old = c.args.self.now in
    let label = c.args.label in
    let input = c.args.input.now in
    let answered = c.in-Some-Ok-Some.answered in
    let is : c.visit.result ≡ Some (Ok (Some answered)) =
    c.in-Some-Ok-Some.is ∙ ap (λ (a : Answer). Some a) (c.in-Some-Ok-Some.field-0-is ∙ ap (λ (t : Option DeliveryAnswer). Ok t) c.in-Some-Ok-Some.field-0-0-is) in
    let visited = was_visited Visits (has_label label) old.handler input old.connections c.visit.new.visitor c.visit.new.self (Ok (Some answered))
    (subst (λ (a : Option Answer). IsVisited Visits (has_label label) old.handler input old.connections a c.visit.new.visitor c.visit.new.self)
    is c.visit.ensures) in
    performs-written old.web c.write_answer.result old.handler.core old.connections (To label input) c.args.lines.now.items c.write_answer.new.lines.items
    (written_lines label answered.bytes.items answered.state) c.visit.new.visitor.core c.visit.new.self c.write_answer.ensures
    (answered-label label input old.connections c.visit.new.self old.handler.core c.visit.new.visitor.core visited.0 visited.1 visited.2 visited.3
    answered visited.4)
