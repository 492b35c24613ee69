-- What an admitted source reads first, by its request.
use Rattle.std.specs.Prelude.{◌≡◌, ℕ, true, List, codes, Some}
use Rattle.std.specs.Str.{bytes_eq}
use Rattle.radio_events.specs.declared.reply.Reply.TheVariants.{Feeding}
use Rattle.radio_heads.specs.Answer.{continue_text, source_text}
use Rattle.radio_heads.specs.Head.{RequestParts}
use Rattle.radio_heads.specs.Headers.{is_same_name, value_of}
use Rattle.radio_session.specs.declared.session.framing.Framing.{Framing}
use Rattle.radio_session.specs.Bodies.{IsFramed}
use Rattle.radio_session.specs.Conversation.{Conversation}
use Rattle.radio_session.specs.Hearing.{request_heard}
use Rattle.radio_session.specs.Saying.{said}
use Rattle.radio_answers.specs.WebAnswers.{answered_by}

-- a PUT that waits for a first answer before it sends its data (RFC 9110, section 10.1.1)
pub record WaitsToGoOn (request : RequestParts) : Type 0 where
  pub put : bytes_eq request.method (codes "PUT") ≡ true
  pub expected : List ℕ
  pub expects : value_of (codes "Expect") request.headers ≡ Some expected
  pub named : is_same_name expected (codes "100-continue") ≡ true

-- what the source of this request reads first, if it is admitted
abbrev pub told_when_admitted : Conversation → RequestParts → List ℕ → List ℕ
told_when_admitted conversation request behind = (said (request_heard conversation request behind).conversation.says Feeding).bytes

-- A source that waits to go on reads `100 Continue` first.
abbrev pub WhoWaitsIsToldToGoOn : Type 0
WhoWaitsIsToldToGoOn = (conversation : Conversation) (request : RequestParts) (behind : List ℕ) (framing : Framing) → IsFramed request framing
    → WaitsToGoOn request → told_when_admitted conversation request behind ≡ continue_text

-- Each other source reads that it is admitted.
abbrev pub NobodyElseIsToldToGoOn : Type 0
NobodyElseIsToldToGoOn = (conversation : Conversation) (request : RequestParts) (behind : List ℕ) (framing : Framing) → IsFramed request framing
    → (WaitsToGoOn request → ⊥) → told_when_admitted conversation request behind ≡ answered_by conversation.says.web source_text
