-- What an admitted source reads first.
use Rattle.std.proofs.Common.{◌≡◌, ℕ, Bool, true, false, List, ap, ◌∙◌, refl, Option, None, Some}
use Rattle.std.specs.Prelude.{codes, ◌&&◌, if◌then◌else◌}
use Rattle.std.specs.Str.{bytes_eq}
use Rattle.radio_heads.specs.Answer.{continue_text, source_text}
use Rattle.radio_heads.specs.Head.{RequestParts}
use Rattle.radio_heads.specs.Headers.{is_same_name, value_of}
use Rattle.radio_source.specs.Place.{Place, after, data_of}
use Rattle.radio_session.specs.declared.session.LastWord.{LastWord}
use Rattle.radio_session.specs.declared.session.framing.Framing.{Framing}
use Rattle.radio_session.specs.declared.session.Greeting.TheVariants.{Welcome, Continue}
use Rattle.radio_events.specs.declared.event.Event.{Event}
use Rattle.radio_session.specs.Bodies.{IsFramed, source_events}
use Rattle.radio_session.specs.Conversation.{Conversation}
use Rattle.radio_session.specs.Framing.{greeting_of, is_word, start_of}
use Rattle.radio_session.specs.Greetings.{WaitsToGoOn, told_when_admitted, WhoWaitsIsToldToGoOn, NobodyElseIsToldToGoOn}
use Rattle.radio_session.specs.Hearing.{EventReading, greeted, body_delivered}
use Rattle.radio_session.specs.Saying.{greeting_text}
use Rattle.radio_answers.specs.WebAnswers.{answered_by}
use Rattle.radio_answers.specs.declared.web_answers.WebAnswers.{WebAnswers}
use Rattle.radio_session.proofs.BodyLemmas.{closes_at}
use Rattle.radio_session.proofs.HeardBodyLemmas.{source_as}

-- the delivery of a body leaves the greeting as it was
greets_as : (conversation : Conversation) (events : List Event) (place : Place) (word : Option LastWord)
    → (let says = (body_delivered conversation events place word).conversation.says in greeting_text says.web says.greeting)
    ≡ greeting_text conversation.says.web conversation.says.greeting
greets_as conversation events place None = refl
greets_as conversation events place (Some word) = refl

-- an admitted source reads the greeting of its request first
told_by : (conversation : Conversation) (request : RequestParts) (behind : List ℕ) (framing : Framing) → IsFramed request framing
    → told_when_admitted conversation request behind ≡ greeting_text conversation.says.web (greeting_of request)
told_by conversation request behind framing framed =
    ap (λ (h : EventReading). greeting_text h.conversation.says.web h.conversation.says.greeting) (source_as conversation request behind framing framed)
    ∙ greets_as (greeted conversation request) (source_events conversation.id request (data_of (start_of framing) behind))
    (after (start_of framing) behind) (closes_at (after (start_of framing) behind))

module _ (web : WebAnswers) (request : RequestParts) where
  word_is : (value : Option (List ℕ)) → value_of (codes "Expect") request.headers ≡ value → is_word (codes "100-continue") value ≡ true
      → (expected : List ℕ) × (value_of (codes "Expect") request.headers ≡ Some expected) × (is_same_name expected (codes "100-continue") ≡ true)
  word_is None e w = cc
  word_is (Some expected) e w = (expected, e, w)

  greets_by : (put asks : Bool) → bytes_eq request.method (codes "PUT") ≡ put → is_word (codes "100-continue") (value_of (codes "Expect") request.headers) ≡ asks
      → (WaitsToGoOn request → ⊥) → greeting_text web (if put && asks then Continue else Welcome) ≡ answered_by web source_text
  greets_by true true p a other =
      let w = word_is (value_of (codes "Expect") request.headers) refl a in
      absurd (other (record { put = p; expected = w.0; expects = w.1; named = w.2 }))
  greets_by true false p a other = refl
  greets_by false asks p a other = refl

  continues_by : (put asks : Bool) → put ≡ true → asks ≡ true → greeting_text web (if put && asks then Continue else Welcome) ≡ continue_text
  continues_by true true p a = refl
  continues_by true false p a = cc
  continues_by false asks p a = cc

pub who_waits_is_told_to_go_on : WhoWaitsIsToldToGoOn
who_waits_is_told_to_go_on conversation request behind framing framed waits =
    told_by conversation request behind framing framed
    ∙ continues_by conversation.says.web request (bytes_eq request.method (codes "PUT")) (is_word (codes "100-continue") (value_of (codes "Expect") request.headers)) waits.put
    (ap (is_word (codes "100-continue")) waits.expects ∙ waits.named)

pub nobody_else_is_told_to_go_on : NobodyElseIsToldToGoOn
nobody_else_is_told_to_go_on conversation request behind framing framed other =
    told_by conversation request behind framing framed ∙ greets_by conversation.says.web request _ _ refl refl other
