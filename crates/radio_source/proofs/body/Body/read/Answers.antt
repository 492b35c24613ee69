use Rattle.std.proofs.Common.{◌≡◌, ◌≢◌, ◌∙◌, ◌++◌, ap, sym, subst, Bool, not, ◌&&◌}
use Rattle.std.specs.Prelude.{IfOk, IfErr}
use Rattle.radio_source.specs.declared.fault.BodyFault.TheVariants.{OutOfMemory as NoMemory}
use Rattle.radio_source.specs.Place.{after, data_of, has_ended}
use Rattle.radio_source.specs.Feeding.{Feeding, Answer, Brings, Refuses, answer_with, answer_to}
use Rattle.radio_source.proofs.FeedingLemmas.{answer_to-found, unless_memory}
use Rattle.radio_source.proofs.body.Body.read.Goals as goal
use Rattle.radio_source.proofs.body.Body.read.Goals.{then-has_ended, else-has_ended}

the_answer : (c : goal.After-answered) → answer_to c.args.self.now c.args.bytes.now
    ≡ answer_with c.in_ok-blocks.blocks.items c.if-has_ended.is_complete c.fault.result
the_answer c =
    let body = c.args.self.now in
    let bytes = c.args.bytes.now in
    let ends : c.if-has_ended.is_complete ≡ (has_ended c.pass.new.self && not body.is_end_told) =
    elim c.if-has_ended.branch [
      | then-has_ended w ↦
          w.is_complete-is ∙ (ap (λ (b : Feeding). not b.is_end_told) c.self.view_is ∙ ap (λ (t : Bool). t && not body.is_end_told) w.if-has_ended.ensures)
      | else-has_ended w ↦
          w.is_complete-is ∙ (w.if-has_ended.false ∙ ap (λ (t : Bool). t && not body.is_end_told) w.if-has_ended.ensures)
    ] in
    answer_to-found body bytes c.in_ok-blocks.blocks.items c.pass.new.gathering c.if-has_ended.is_complete c.pass.new.self c.fault.result
    c.requires
    (c.in_ok-pass.ensures.place ∙ ap (λ (b : Feeding). after b.place bytes) c.self.view_is)
    (c.in_ok-pass.ensures.found
    ∙ (ap (λ t. t ++ data_of c.self.inside.position bytes) c.new-gathering.ensures ∙ ap (λ (b : Feeding). data_of b.place bytes) c.self.view_is))
    c.in_ok-blocks.ensures
    ends
    c.fault.ensures

pub returns-clause-ok : goal.returns-clause-ok
returns-clause-ok c =
    subst (λ (a : Answer). IfOk c.answered.result (λ b. a ≡ Brings b.blocks.items b.is_complete)) (sym (the_answer c)) c.answered.ensures.ok

pub returns-clause-fault : goal.returns-clause-fault
returns-clause-fault c =
    subst (λ (a : Answer). IfErr c.answered.result (λ e. e ≢ NoMemory → a ≡ Refuses e)) (sym (the_answer c))
    (unless_memory c.answered.result _ c.answered.ensures.fault)
