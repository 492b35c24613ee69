use Rattle.std.proofs.Common.{ℕ, ◌||◌, List, refl, ap, sym, subst, ◌∙◌}
use Rattle.std.specs.Prelude.{◌==◌, ◌&&◌, nat_le, not}
use Rattle.std.proofs.lemmas.List.Sums.{AllPass-from_list_all}
use Rattle.radio_heads.specs.FieldValue.{IsFieldText}
use Rattle.radio_heads.specs.WebAnswer.{page_text}
use Rattle.radio_answers.specs.Page.{page_answer}
use Rattle.radio_answers.specs.declared.web_page.TheConstants.{POLICY}
use Rattle.radio_answers.proofs.web_page.page.Goals as goal

pub new-requires : goal.new-requires
new-requires c = subst IsFieldText (sym c.as_bytes.ensures.value) (AllPass-from_list_all (λ b. b == 9 || (nat_le 32 b && not (b == 127))) POLICY.now refl)

pub returns : goal.returns
unfolding page_answer
returns c origin =
    ap (λ (policy : List ℕ). page_text origin policy c.as_bytes-2.result.now) (c.new.ensures ∙ c.as_bytes.ensures.value)
    ∙ ap (λ (body : List ℕ). page_text origin POLICY.now body) c.as_bytes-2.ensures.value
