use Rattle.std.proofs.Common.{List, ℕ, ap, ◌∙◌}
use Rattle.std.proofs.lemmas.Result.{IfOk-weaker}
use Rattle.radio_heads.specs.declared.answer.TextKind.TheVariants.{Plain}
use Rattle.radio_heads.specs.Answer.{sized_text, status_number, content_type}
use Rattle.radio_heads.proofs.writing.write_denial.Goals as goal

pub returns : goal.returns
returns c = IfOk-weaker c.write_sized.result _ _
    (λ text same. same
    ∙ (ap (λ (status : ℕ). sized_text status (content_type Plain) c.as_bytes.result.now) c.status_code-code.ensures
    ∙ ap (λ (body : List ℕ). sized_text (status_number c.args.status) (content_type Plain) body) (c.as_bytes.ensures.value ∙ c.in_ok-body.ensures.ok)))
    c.write_sized.ensures
