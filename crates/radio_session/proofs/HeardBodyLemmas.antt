-- The reading of a whole body after its head is that of its data.
use Rattle.std.proofs.Common.{◌≡◌, ℕ, Bool, true, false, List, length, take, ap, sym, subst, ◌∙◌, refl, Option, None, Some}
use Rattle.std.specs.Str.{bytes_eq}
use Rattle.std.specs.Prelude.{codes}
use Rattle.std.proofs.Math.Seq.{take-length}
use Rattle.radio_heads.specs.Head.{RequestParts}
use Rattle.radio_source.specs.Place.{Place, AtEnd, Broken, after, data_of, has_ended, fault_at, plain_start, sized_start, chunked_start}
use Rattle.radio_source.specs.Chunked.{ChunkedBody, IsBody, print_body, content_of}
use Rattle.radio_session.specs.declared.session.LastWord.{LastWord}
use Rattle.radio_session.specs.declared.session.LastWord.TheVariants.{Faulty}
use Rattle.radio_session.specs.declared.session.framing.Framing.{Framing}
use Rattle.radio_session.specs.declared.session.framing.Framing.TheVariants.{Plain, Sized, Chunked}
use Rattle.radio_session.specs.Conversation.{Conversation}
use Rattle.radio_session.specs.Framing.{is_source, framing_of, start_of}
use Rattle.radio_session.specs.Hearing.{EventReading, request_heard, source_heard, body_closes, greeted, body_delivered}
use Rattle.radio_session.specs.Bodies.{source_events, IsFramed, SourceEndsBy, PlainBodiesAreHeard, SizedBodiesAreHeard, ChunkedBodiesAreHeard, FaultyBodiesAreHeard}
use Rattle.radio_session.proofs.BodyLemmas.{closes_at}
use Rattle.radio_session.proofs.CutLemmas.{request_by}

-- the reading of a source's request, by the framing of its data
heard_as : (source get : Bool) (conversation : Conversation) (request : RequestParts) (behind : List ℕ) (framing : Framing) → source ≡ true
    → framing_of request ≡ Some framing
    → request_by source get conversation request behind ≡ source_heard conversation request behind (Some framing)
unfolding request_by
heard_as true get conversation request behind framing e framed = ap (source_heard conversation request behind) framed
heard_as false get conversation request behind framing e framed = cc

pub source_as : (conversation : Conversation) (request : RequestParts) (behind : List ℕ) (framing : Framing) → IsFramed request framing
    → request_heard conversation request behind ≡ source_heard conversation request behind (Some framing)
unfolding request_by
source_as conversation request behind framing framed =
    heard_as (is_source request) (bytes_eq request.method (codes "GET")) conversation request behind framing framed.source framed.comes

-- the events of a body, by its data and by how it closes the conversation
events_as : (conversation : Conversation) (request : RequestParts) (framing : Framing) (behind bytes : List ℕ) (word : Option LastWord)
    → IsFramed request framing → data_of (start_of framing) behind ≡ bytes → closes_at (after (start_of framing) behind) ≡ word
    → (request_heard conversation request behind).events ≡ (body_delivered (greeted conversation request) (source_events conversation.id request bytes)
    (after (start_of framing) behind) word).events
events_as conversation request framing behind bytes word framed found closes =
    let id = conversation.id in
    let here = after (start_of framing) behind in
    ap (λ (h : EventReading). h.events) (source_as conversation request behind framing framed)
    ∙ ap (λ (xs : List ℕ). (body_delivered (greeted conversation request) (source_events id request xs) here (closes_at here)).events) found
    ∙ ap (λ (w : Option LastWord). (body_delivered (greeted conversation request) (source_events id request bytes) here w).events) closes

pub plain_bodies_are_heard : ((bytes : List ℕ) → data_of plain_start bytes ≡ bytes) → ((bytes : List ℕ) → after plain_start bytes ≡ plain_start)
    → PlainBodiesAreHeard
plain_bodies_are_heard found place conversation request bytes framed =
    events_as conversation request Plain bytes bytes None framed (found bytes) (ap closes_at (place bytes))

ended_closes : (place : Place) → has_ended place ≡ true → closes_at place ≡ body_closes true None
ended_closes place e = ap (λ (b : Bool). body_closes b (fault_at place)) e

pub chunked_bodies_are_heard : ((b : ChunkedBody) → IsBody b → data_of chunked_start (print_body b) ≡ content_of b.chunks)
    → ((b : ChunkedBody) → IsBody b → after chunked_start (print_body b) ≡ AtEnd)
    → ChunkedBodiesAreHeard
chunked_bodies_are_heard found place conversation request body framed whole =
    events_as conversation request Chunked (print_body body) (content_of body.chunks) (closes_at AtEnd) framed (found body whole)
    (ap closes_at (place body whole))

pub sized_bodies_are_heard : ((n : ℕ) (bytes : List ℕ) → data_of (sized_start n) bytes ≡ take n bytes)
    → ((n : ℕ) (bytes : List ℕ) → length bytes ≡ n → (has_ended (after (sized_start n) bytes) ≡ true)) → SizedBodiesAreHeard
sized_bodies_are_heard found place conversation request bytes framed =
    events_as conversation request (Sized (length bytes)) bytes bytes (body_closes true None) framed (found (length bytes) bytes ∙ take-length bytes)
    (ended_closes (after (sized_start (length bytes)) bytes) (place (length bytes) bytes refl))

pub faulty_bodies_are_heard : FaultyBodiesAreHeard
faulty_bodies_are_heard conversation request bytes framed broken =
    let events = source_events conversation.id request (data_of chunked_start bytes) in
    let heard : request_heard conversation request bytes
    ≡ body_delivered (greeted conversation request) events (after chunked_start bytes) (closes_at Broken) =
    source_as conversation request bytes Chunked framed
    ∙ ap (λ (p : Place). body_delivered (greeted conversation request) events (after chunked_start bytes) (closes_at p)) broken in
    subst (λ (h : EventReading). SourceEndsBy conversation.id (codes "bad-body") h) (sym heard)
    (record { before = events; last = Faulty; events = refl; closing = refl; is_last_word = refl })
