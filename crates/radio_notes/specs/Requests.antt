-- What is kept of a request, and what is read from some bytes.
use Rattle.std.specs.Prelude.{◌≡◌, ℕ, List, [], ◌∷◌, take, codes, Option, None, Some, Ok, unwrap_or}
use Rattle.percent_encoding.specs.Percent.{percent_decode}
use Rattle.radio_creds.specs.Authorization.{basic_pair}
use Rattle.radio_creds.specs.Credentials.{Credentials}
use Rattle.radio_events.specs.declared.event.Event.{Event}
use Rattle.radio_events.specs.declared.event.Event.TheVariants.{Listen}
use Rattle.radio_events.specs.declared.event.ListenRequest.{ListenRequest}
use Rattle.radio_heads.specs.declared.outcome.Progress.TheVariants.{Whole}
use Rattle.radio_heads.specs.Head.{RequestParts, ShowsRequest}
use Rattle.radio_heads.specs.Headers.{value_of}
use Rattle.radio_heads.specs.Reading.{IsReading}
use Rattle.radio_texts.specs.Cuts.{fields_at}
use Rattle.radio_notes.specs.declared.request_so_far.RequestSoFar.{RequestSoFar}
use Rattle.radio_notes.specs.declared.request_so_far.RequestSoFar.TheVariants.{Part, Request, Nothing}
use Rattle.radio_notes.specs.Agents.{agent_among}
use Rattle.radio_notes.specs.Kept.{Kept, no_request_kept}

-- what is kept of a request, if one was read
abbrev pub request_kept : RequestSoFar → Kept
request_kept (Request request) = request
request_kept request = no_request_kept

-- at most 255 bytes are kept of a text
abbrev pub front_of : List ℕ → List ℕ
front_of text = take 255 text

-- the user of a pair; empty if there is none
abbrev pub user_of_pair : Option Credentials → List ℕ
user_of_pair None = []
user_of_pair (Some pair) = pair.user

-- the value of a header; empty if it is not there
abbrev pub header : List ℕ → RequestParts → List ℕ
header name parts = unwrap_or (value_of name parts.headers) []

-- what is kept of a head: its path without the query, decoded, and the user of its pair
-- rule: Line of the log; Line of a client
abbrev pub kept_of_head : RequestParts → Kept
kept_of_head parts = record {
  method = front_of parts.method;
  path = front_of (percent_decode parts.path);
  user = front_of (user_of_pair (basic_pair (header (codes "Authorization") parts)));
  agent = front_of (header (codes "User-Agent") parts);
}

-- what is kept of a listener's request, which its event says, with the agent that its head names
-- rule: Line of a client
abbrev pub kept_of_listener : ListenRequest → List ℕ → Kept
kept_of_listener asked agent = record {
  method = codes "GET";
  path = front_of asked.mount;
  user = front_of (user_of_pair asked.pair);
  agent = front_of agent;
}

-- a request is that of a head, which is whole in these bytes
abbrev pub IsOfHead : List ℕ → Kept → Type 0
IsOfHead bytes kept =
    (parts : RequestParts) × (end : ℕ) × IsReading ShowsRequest bytes (Ok (Whole parts end)) × (kept ≡ kept_of_head parts)

-- a request is that of a head, which means these events
abbrev pub IsRequestIn : List ℕ → List Event → Kept → Type 0
IsRequestIn bytes (Listen asked ∷ events) kept = kept ≡ kept_of_listener asked (agent_among (fields_at 10 bytes))
IsRequestIn bytes events kept = IsOfHead bytes kept

-- what is read from the bytes of a head, which mean these events: the bytes are kept up to the first event, and then the
-- request. If memory is refused, nothing is known
abbrev pub IsReceived : List ℕ → List Event → RequestSoFar → Type 0
IsReceived bytes events Nothing = Unit {0}
IsReceived bytes [] (Part held) = held.items ≡ bytes
IsReceived bytes (event ∷ events) (Part held) = ⊥
IsReceived bytes [] (Request kept) = ⊥
IsReceived bytes (event ∷ events) (Request kept) = IsRequestIn bytes (event ∷ events) kept
