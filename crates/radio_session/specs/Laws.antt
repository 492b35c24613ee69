-- Laws on sessions, for callers.
use Rattle.std.specs.Prelude.{◌≡◌, ℕ, List}
use Rattle.radio_events.specs.declared.reply.Reply.{Reply}
use Rattle.radio_session.specs.Conversation.{Conversation, saying_now}
use Rattle.radio_session.specs.Hearing.{EventReading, IsHeard}
use Rattle.radio_session.specs.Saying.{said}

-- bytes that arrive on a connection have one meaning
abbrev pub HearingIsOne : Type 0
HearingIsOne = (conversation : Conversation) (bytes : List ℕ) (one other : EventReading) → IsHeard conversation bytes one → IsHeard conversation bytes other
    → one ≡ other

-- Reading bytes fails no session.
abbrev pub HearingFailsNothing : Type 0
HearingFailsNothing = (conversation : Conversation) (bytes : List ℕ) (heard : EventReading) → IsHeard conversation bytes heard
    → heard.conversation.has_failed ≡ conversation.has_failed

-- Writing a reply fails no session.
abbrev pub TellingFailsNothing : Type 0
TellingFailsNothing =
    (conversation : Conversation) (reply : Reply) → (saying_now conversation (said conversation.says reply).says).has_failed ≡ conversation.has_failed
