-- What is written last on a connection names its rule.
use Rattle.std.proofs.Common.{◌≡◌, ℕ, Bool, true, false, List, [], Option, None, Some, refl, ap, sym, subst, ◌∙◌}
use Rattle.std.specs.Prelude.{codes, if◌then◌else◌}
use Rattle.radio_policy.specs.declared.rule.Rule.{Rule}
use Rattle.radio_policy.specs.declared.rule.Status.{Status}
use Rattle.radio_policy.specs.Words.{word_of, status_of}
use Rattle.radio_heads.specs.Answer.{denial_text}
use Rattle.radio_session.specs.declared.session.Says.{Says}
use Rattle.radio_session.specs.declared.session.Closing.{Closing}
use Rattle.radio_session.specs.declared.session.LastWord.{LastWord}
use Rattle.radio_session.specs.declared.session.LastWord.TheVariants.{Refusal, Complete, Faulty}
use Rattle.radio_session.specs.declared.session.Greeting.{Greeting}
use Rattle.radio_session.specs.declared.session.Greeting.TheVariants.{Welcome, Continue}
use Rattle.radio_events.specs.declared.state.Ending.TheVariants.{By, Done, BadBody}
use Rattle.radio_answers.specs.WebAnswers.{answered_by}
use Rattle.radio_answers.specs.declared.web_answers.WebAnswers.{WebAnswers}
use Rattle.radio_answers.specs.Answers.{denial, denial_with, text_answer}
use Rattle.radio_session.specs.Saying.{body_text, noted}
use Rattle.radio_session.specs.LastWords.{EndsWith, IsAbout, DenialsNameTheirRule, RulesWithoutStatusAreSilent, LateDenialsAreSilent}
use Rattle.radio_session.specs.LastWords.{FinishesAreSilent, DoneCommandsAreAnswered, RefusalsNameTheirRule, WholeBodiesAreDone, FaultyBodiesAreSilent}

-- the text of a denial, by the rule's status
denial_is : (web : WebAnswers) (rule : Rule) (status : Option Status) → status_of rule ≡ status → denial web rule ≡ denial_with web status rule
denial_is web rule status e = ap (λ (s : Option Status). denial_with web s rule) e

pub denials_name_their_rule : DenialsNameTheirRule
denials_name_their_rule says rule status early e = record {
  ending = By rule;
  bytes_written = ap (λ (b : Bool). if b then [] else denial says.web rule) early ∙ denial_is says.web rule (Some status) e;
  shut = refl;
  last_word = refl;
}

silent_by : (web : WebAnswers) (is_admitted : Bool) (rule : Rule) → status_of rule ≡ None → (if is_admitted then [] else denial web rule) ≡ []
silent_by web true rule e = refl
silent_by web false rule e = denial_is web rule None e

pub rules_without_status_are_silent : RulesWithoutStatusAreSilent
rules_without_status_are_silent says rule e =
    record { ending = By rule; bytes_written = silent_by says.web says.is_admitted rule e; shut = refl; last_word = refl }

pub late_denials_are_silent : LateDenialsAreSilent
late_denials_are_silent says rule late = record {
  ending = By rule;
  bytes_written = ap (λ (b : Bool). if b then [] else denial says.web rule) late;
  shut = refl;
  last_word = refl;
}

pub finishes_are_silent : FinishesAreSilent
finishes_are_silent says rule = record { ending = By rule; bytes_written = refl; shut = refl; last_word = refl }

pub commands_are_answered : DoneCommandsAreAnswered
commands_are_answered says text early = record {
  ending = Done;
  bytes_written = ap (λ (b : Bool). if b then [] else text_answer says.web text) early;
  shut = refl;
  last_word = refl;
}

-- the connection's own last word
module _ (says : Says) (word : LastWord) (about : IsAbout says word) where
  by_closing : (bytes text : List ℕ) → EndsWith (noted says (Some (record { awaits = 0; word = word }))) bytes text
      → EndsWith (noted says says.closing) bytes text
  by_closing bytes text h = subst (λ (c : Option Closing). EndsWith (noted says c) bytes text) (sym about) h

pub refusals_name_their_rule : RefusalsNameTheirRule
refusals_name_their_rule says rule status about e =
    by_closing says (Refusal rule) about (answered_by says.web (denial_text status (word_of rule))) (word_of rule)
    (record { ending = By rule; bytes_written = denial_is says.web rule (Some status) e; shut = refl; last_word = refl })

done_with : (says : Says) (greeting : Greeting) → IsAbout says Complete → says.greeting ≡ greeting
    → EndsWith (noted says says.closing) (body_text says.web greeting) (codes "done")
done_with says greeting about e =
    by_closing says Complete about (body_text says.web greeting) (codes "done") (record { ending = Done; bytes_written = ap (body_text says.web) e; shut = refl; last_word = refl })

pub whole_bodies_are_done : WholeBodiesAreDone
whole_bodies_are_done says about = (done_with says Welcome about, done_with says Continue about)

pub faulty_bodies_are_silent : FaultyBodiesAreSilent
faulty_bodies_are_silent says about =
    by_closing says Faulty about [] (codes "bad-body") (record { ending = BadBody; bytes_written = refl; shut = refl; last_word = refl })
