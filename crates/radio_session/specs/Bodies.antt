-- How a source's body is read, after its head (RFC 9112, section 6).
use Rattle.std.specs.Prelude.{◌≡◌, ℕ, true, List, [], ◌∷◌, ◌++◌, length, map, codes, Some}
use Rattle.radio_events.specs.declared.event.Event.{Event}
use Rattle.radio_events.specs.declared.event.Event.TheVariants.{Push, SourceEnd}
use Rattle.radio_blocks.specs.Cutting.{blocks_of}
use Rattle.radio_heads.specs.Head.{RequestParts}
use Rattle.radio_source.specs.Chunked.{ChunkedBody, IsBody, print_body, content_of}
use Rattle.radio_session.specs.declared.session.framing.Framing.{Framing}
use Rattle.radio_session.specs.declared.session.framing.Framing.TheVariants.{Plain, Sized, Chunked}
use Rattle.radio_session.specs.Asking.{asks_to_feed}
use Rattle.radio_source.specs.Place.{Broken, after, chunked_start}
use Rattle.radio_session.specs.declared.session.LastWord.{LastWord}
use Rattle.radio_events.specs.Endings.{ending_word}
use Rattle.radio_session.specs.Conversation.{Conversation}
use Rattle.radio_session.specs.Framing.{is_source, framing_of}
use Rattle.radio_session.specs.Hearing.{EventReading, request_heard}
use Rattle.radio_session.specs.Saying.{last_ending}

-- a source asks to feed, and delivers these data in blocks
abbrev pub source_events : ℕ → RequestParts → List ℕ → List Event
source_events id request bytes = asks_to_feed id request ∷ map (Push id) (blocks_of bytes)

-- the request is that of a source, whose data arrive in this framing
pub record IsFramed (request : RequestParts) (framing : Framing) : Type 0 where
  pub source : is_source request ≡ true
  pub comes : framing_of request ≡ Some framing

-- All bytes of a plain body are data.
-- rule: Framing
abbrev pub PlainBodiesAreHeard : Type 0
PlainBodiesAreHeard = (conversation : Conversation) (request : RequestParts) (bytes : List ℕ) → IsFramed request Plain →
    (request_heard conversation request bytes).events ≡ source_events conversation.id request bytes

-- All bytes of a whole sized body are data, and then the body ends.
-- rule: End of a body
abbrev pub SizedBodiesAreHeard : Type 0
SizedBodiesAreHeard = (conversation : Conversation) (request : RequestParts) (bytes : List ℕ) → IsFramed request (Sized (length bytes)) →
    (request_heard conversation request bytes).events ≡ source_events conversation.id request bytes ++ SourceEnd conversation.id ∷ []

-- The data of a whole chunked body are those of its chunks, and then the body ends.
-- rule: End of a body
abbrev pub ChunkedBodiesAreHeard : Type 0
ChunkedBodiesAreHeard = (conversation : Conversation) (request : RequestParts) (body : ChunkedBody) → IsFramed request Chunked → IsBody body →
    (request_heard conversation request (print_body body)).events ≡ source_events conversation.id request (content_of body.chunks) ++ SourceEnd conversation.id ∷ []

-- the last event is the end of the source of this number, and the reply to it shuts the connection with this word
pub record SourceEndsBy (id : ℕ) (word : List ℕ) (heard : EventReading) : Type 0 where
  pub before : List Event
  pub last : LastWord
  pub events : heard.events ≡ before ++ SourceEnd id ∷ []
  pub closing : heard.conversation.says.closing ≡ Some (record { awaits = length before; word = last })
  pub is_last_word : ending_word (last_ending last) ≡ word

-- A chunked body with a byte that no chunked body has there ends with the word `bad-body`, not as if it were whole.
abbrev pub FaultyBodiesAreHeard : Type 0
FaultyBodiesAreHeard = (conversation : Conversation) (request : RequestParts) (bytes : List ℕ) → IsFramed request Chunked → after chunked_start bytes ≡ Broken →
    SourceEndsBy conversation.id (codes "bad-body") (request_heard conversation request bytes)
