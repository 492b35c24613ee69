use Rattle.std.proofs.Common.{◌≡◌, ◌++◌, ◌∙◌, List, OnOk, subst, ℕ}
use Rattle.radio_heads.specs.Answer.{sized_text, content_type}
use Rattle.radio_heads.specs.declared.answer.TextKind.TheVariants.{Plain}
use Rattle.radio_answers.specs.Answers.{count_line}
use Rattle.radio_answers.specs.WebAnswers.{answered_by}
use Rattle.radio_answers.proofs.texts.append_count.Goals as goal

pub returns-clause-ok : goal.returns-clause-ok
returns-clause-ok c =
    let line : c.as_bytes.result.now ≡ count_line c.args.done.now c.args.count = c.as_bytes.ensures.value ∙ c.in_ok-line.ensures.ok in
    subst (λ (line : List ℕ). OnOk c.append_body.result
    (c.append_body.new.out.items ≡ c.args.out.now.items ++ answered_by c.args.web (sized_text 200 (content_type Plain) line)))
    line c.append_body.ensures.ok
