-- What is written last on a connection, and the word with which it is shut.
use Rattle.std.specs.Prelude.{◌≡◌, ℕ, true, false, List, [], codes, None, Some}
use Rattle.radio_policy.specs.declared.rule.Rule.{Rule}
use Rattle.radio_policy.specs.declared.rule.Status.{Status}
use Rattle.radio_policy.specs.Words.{word_of, status_of}
use Rattle.radio_events.specs.declared.reply.Reply.TheVariants.{Noted, Text, Deny, Finished}
use Rattle.radio_events.specs.declared.text.ReplyText.{ReplyText as CommandText}
use Rattle.radio_heads.specs.Answer.{denial_text, source_text}
use Rattle.radio_session.specs.declared.session.Says.{Says}
use Rattle.radio_session.specs.declared.session.LastWord.{LastWord}
use Rattle.radio_session.specs.declared.session.LastWord.TheVariants.{Refusal, Complete, Faulty}
use Rattle.radio_session.specs.declared.session.Greeting.TheVariants.{Welcome, Continue}
use Rattle.radio_events.specs.declared.state.State.TheVariants.{Shut}
use Rattle.radio_events.specs.declared.state.Ending.{Ending}
use Rattle.radio_events.specs.Endings.{ending_word}
use Rattle.radio_answers.specs.Answers.{text_answer}
use Rattle.radio_session.specs.Saying.{Said, said}
use Rattle.radio_answers.specs.WebAnswers.{answered_by}

-- these bytes are written, and the connection is shut with this word
pub record EndsWith (written : Said) (bytes word : List ℕ) : Type 0 where
  pub ending : Ending
  pub bytes_written : written.bytes ≡ bytes
  pub shut : written.state ≡ Shut ending
  pub last_word : ending_word ending ≡ word

-- nothing was admitted yet
abbrev pub IsAsking : Says → Type 0
IsAsking says = says.is_admitted ≡ false

-- The denial of a request is an answer with the rule's status that names the rule. The word is the
-- rule's.
-- rule: Answer to a denial
abbrev pub DenialsNameTheirRule : Type 0
DenialsNameTheirRule = (says : Says) (rule : Rule) (status : Status) → IsAsking says → status_of rule ≡ Some status
    → EndsWith (said says (Deny rule)) (answered_by says.web (denial_text status (word_of rule))) (word_of rule)

-- a rule without a status has no answer
-- rule: Answer to a denial
abbrev pub RulesWithoutStatusAreSilent : Type 0
RulesWithoutStatusAreSilent = (says : Says) (rule : Rule) → status_of rule ≡ None → EndsWith (said says (Deny rule)) [] (word_of rule)

-- nor has a denial after an admission an answer
-- rule: Answer to a denial
abbrev pub LateDenialsAreSilent : Type 0
LateDenialsAreSilent = (says : Says) (rule : Rule) → says.is_admitted ≡ true → EndsWith (said says (Deny rule)) [] (word_of rule)

-- nothing is written to a client that a rule finished, and the word is the rule's
-- rule: Finishes are silent
abbrev pub FinishesAreSilent : Type 0
FinishesAreSilent = (says : Says) (rule : Rule) → EndsWith (said says (Finished rule)) [] (word_of rule)

-- A command that was done gets an answer of its text, and the word is `done`.
-- rule: Commands by GET
abbrev pub DoneCommandsAreAnswered : Type 0
DoneCommandsAreAnswered = (says : Says) (text : CommandText) → IsAsking says → EndsWith (said says (Text text)) (text_answer says.web text) (codes "done")

-- no other reply is awaited before the connection's own last word
abbrev pub IsAbout : Says → LastWord → Type 0
IsAbout says word = says.closing ≡ Some (record { awaits = 0; word = word })

-- the connection's own refusal is written as a denial, in the reply to the client's `Leave`
-- rule: Bad head
abbrev pub RefusalsNameTheirRule : Type 0
RefusalsNameTheirRule = (says : Says) (rule : Rule) (status : Status) → IsAbout says (Refusal rule) → status_of rule ≡ Some status
    → EndsWith (said says Noted) (answered_by says.web (denial_text status (word_of rule))) (word_of rule)

-- a source whose body is whole reads that it is admitted, unless it read that before; the word is `done`
-- rule: Greeting of a source
abbrev pub WholeBodiesAreDone : Type 0
WholeBodiesAreDone = (says : Says) → IsAbout says Complete →
    (says.greeting ≡ Welcome → EndsWith (said says Noted) [] (codes "done"))
    × (says.greeting ≡ Continue → EndsWith (said says Noted) (answered_by says.web source_text) (codes "done"))

-- nothing is written to a source whose body has a fault
-- rule: End of a body
abbrev pub FaultyBodiesAreSilent : Type 0
FaultyBodiesAreSilent = (says : Says) → IsAbout says Faulty → EndsWith (said says Noted) [] (codes "bad-body")
