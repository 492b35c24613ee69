-- The answer at `/`.
use Rattle.std.specs.Prelude.{ℕ, List, Option}
use Rattle.radio_heads.specs.WebAnswer.{page_text}
use Rattle.radio_answers.specs.declared.web_page.TheConstants.{PAGE, POLICY}

-- the page under its policy, for pages of that origin if one is given
unfoldable pub page_answer : Option (List ℕ) → List ℕ
page_answer origin = page_text origin POLICY.now PAGE.now
