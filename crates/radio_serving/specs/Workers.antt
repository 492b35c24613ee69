-- Workers, as their callers see them.
use Rattle.std.specs.Prelude.{ℕ}
use Rattle.radio_answers.specs.declared.web_answers.WebAnswers.{WebAnswers}

-- the server that it asks, what the settings say of answers, when it last gave that the time, and for how long a line may take nothing of what is pending, in
-- milliseconds
-- rule: Reading
pub record WorkerOf (S : Type 0) : Type 0 where
  pub server : S
  pub web : WebAnswers
  pub clock_ms : ℕ
  pub patience_ms : ℕ
