-- From the bytes that arrive on a connection to events.
use Rattle.std.specs.Prelude.{◌≡◌, ℕ, Bool, true, false, List, [], ◌∷◌, ◌++◌, length, drop, codes, Option, None, Some, if◌then◌else◌, Result, Ok, Err}
use Rattle.std.specs.Str.{bytes_eq}
use Rattle.radio_policy.specs.declared.rule.Rule.{Rule}
use Rattle.radio_policy.specs.declared.rule.Rule.TheVariants.{BadHead, BadMethod}
use Rattle.radio_events.specs.declared.event.Event.{Event}
use Rattle.radio_events.specs.declared.event.Event.TheVariants.{SourceEnd, Leave}
use Rattle.radio_heads.specs.declared.outcome.Progress.{Progress}
use Rattle.radio_heads.specs.declared.outcome.Progress.TheVariants.{More, Whole}
use Rattle.radio_heads.specs.declared.outcome.HeadFault.{HeadFault}
use Rattle.radio_heads.specs.Head.{RequestParts, ShowsRequest}
use Rattle.radio_heads.specs.Reading.{IsReading}
use Rattle.radio_session.specs.declared.session.Hears.{Hears}
use Rattle.radio_session.specs.declared.session.Hears.TheVariants.{Head, Body, Nothing}
use Rattle.radio_session.specs.declared.session.LastWord.{LastWord}
use Rattle.radio_session.specs.declared.session.LastWord.TheVariants.{Refusal, Complete, Faulty}
use Rattle.radio_session.specs.declared.session.framing.Framing.{Framing}
use Rattle.radio_session.specs.Framing.{is_source, framing_of, start_of, greeting_of}
use Rattle.radio_source.specs.declared.fault.BodyFault.{BodyFault}
use Rattle.radio_source.specs.Place.{Place, after, data_of, has_ended, fault_at}
use Rattle.radio_source.specs.Feeding.{unfed}
use Rattle.radio_session.specs.Asking.{asks_to_feed, asks_by_get}
use Rattle.radio_session.specs.Conversation.{Conversation}
use Rattle.radio_session.specs.Pushes.{pushes}

-- the result of reading bytes: events for the server, and the conversation after them
pub record EventReading : Type 0 where
  pub events : List Event
  pub conversation : Conversation

-- the conversation reads the next bytes this way, and holds none
abbrev pub going_on : Conversation → Hears → Conversation
going_on conversation hears = record conversation { held = []; hears = hears }

-- after these events the last one is applied, which closes the conversation: its reply brings the
-- last word
abbrev pub closes_with : Conversation → List Event → Event → LastWord → EventReading
closes_with conversation events last word = record {
  events = events ++ last ∷ [];
  conversation = record (going_on conversation Nothing) { says = record conversation.says { closing = Some (record { awaits = length events; word = word }) } };
}

-- the conversation after a whole head
abbrev pub nothing_held : Conversation → Conversation
nothing_held conversation = record conversation { held = [] }

-- the connection refuses by its own rule: the client leaves, and then reads a denial that names the rule
-- rule: Bad head; Bad method
abbrev pub refuses : Conversation → Rule → EventReading
refuses conversation rule = closes_with conversation [] (Leave conversation.id) (Refusal rule)

-- how a body closes the conversation: by its end or by a fault
-- rule: End of a body
abbrev pub body_closes : Bool → Option BodyFault → Option LastWord
body_closes true fault = Some Complete
body_closes false (Some fault) = Some Faulty
body_closes false None = None

-- The events before and those of a body's data are delivered. If the body closes the conversation, the end of the source's data
-- follows.
abbrev pub body_delivered : Conversation → List Event → Place → Option LastWord → EventReading
body_delivered conversation events place None = record { events = events; conversation = going_on conversation (Body (unfed place)) }
body_delivered conversation events place (Some word) = closes_with conversation events (SourceEnd conversation.id) word

-- the reading of bytes of a body, which begin at this place in it
-- rule: End of a body
abbrev pub body_heard : Conversation → List Event → Place → List ℕ → EventReading
body_heard conversation before place bytes =
    body_delivered conversation (before ++ pushes conversation.id (data_of place bytes)) (after place bytes)
    (body_closes (has_ended (after place bytes)) (fault_at (after place bytes)))

-- the conversation that knows what this client reads first if it is admitted as a source
abbrev pub greeted : Conversation → RequestParts → Conversation
greeted conversation request = record conversation { says = record conversation.says { greeting = greeting_of request } }

-- the reading of a source's head and the bytes after it, by the framing of the data
-- rule: Source request
abbrev pub source_heard : Conversation → RequestParts → List ℕ → Option Framing → EventReading
source_heard conversation request behind None = refuses conversation BadHead
source_heard conversation request behind (Some framing) =
    body_heard (greeted conversation request) (asks_to_feed conversation.id request ∷ []) (start_of framing) behind

-- the reading of a GET, by which a client asks to listen to a mount, or gives a command
abbrev pub get_heard : Conversation → RequestParts → EventReading
get_heard conversation request = record { events = asks_by_get conversation.says.web conversation.id request ∷ []; conversation = going_on conversation Nothing }

-- The reading of a head and the bytes after it. SOURCE and PUT feed the mount of the path. GET listens to it, or gives a command.
-- rule: Bad method; Source request
abbrev pub request_heard : Conversation → RequestParts → List ℕ → EventReading
request_heard conversation request behind =
    if is_source request then source_heard conversation request behind (framing_of request)
    else if bytes_eq request.method (codes "GET") then get_heard conversation request
    else refuses conversation BadMethod

-- the reading of all bytes of a head so far
-- rule: Bad head
abbrev pub head_heard : Conversation → List ℕ → Result (Progress RequestParts) HeadFault → EventReading
head_heard conversation bytes (Ok More) = record { events = []; conversation = record conversation { held = bytes } }
head_heard conversation bytes (Ok (Whole request length)) = request_heard (nothing_held conversation) request (drop length bytes)
head_heard conversation bytes (Err fault) = refuses conversation BadHead

-- the bytes are read as part of a head, as data, or not at all
abbrev pub HearsAs : Hears → Conversation → List ℕ → EventReading → Type 0
HearsAs Head conversation bytes heard = (reading : Result (Progress RequestParts) HeadFault)
    × IsReading ShowsRequest (conversation.held ++ bytes) reading × (heard ≡ head_heard conversation (conversation.held ++ bytes) reading)
HearsAs (Body body) conversation bytes heard = heard ≡ body_heard (nothing_held conversation) [] body.place bytes
HearsAs Nothing conversation bytes heard = heard ≡ record { events = []; conversation = conversation }

-- this is a reading of the bytes that arrive on the connection
abbrev pub IsHeard : Conversation → List ℕ → EventReading → Type 0
IsHeard conversation bytes heard = HearsAs conversation.hears conversation bytes heard
