-- What has come on the connection of one label, what has happened there, and what was given.
use Rattle.std.proofs.Common.{◌≡◌, ◌⊎◌, ℕ, true, false, List, [], ◌∷◌, ◌++◌, drop, Option, None, Some, Ok}
use Rattle.radio_headline.proofs.Words.{map, codes, option_map, bytes_eq, Peer, Entry, Event, Arrive, Source, Push, SourceEnd, Title, Listen, Draw, Command, Leave, RelayUp, RelayDown, Reply, Arrived, client_in, Whole}
use Rattle.radio_headline.proofs.Words.{RequestParts, ShowsRequest, IsReading, unfed, Place, after, data_of, ResponseParts, ShowsResponse, interval_in, shown_in_response, sound_of_parts, after_bytes, stream_parts}
use Rattle.radio_headline.proofs.Words.{stream_with, Head, Behind, PulledStream, Body, Nothing, asks_to_feed, asks_by_get, Conversation, asking, is_source, framing_of, start_of, told, number_after, Pulling, Connection}
use Rattle.radio_headline.proofs.Words.{Client, Relay, pushed, WebAnswers}
use Rattle.radio_session.specs.declared.session.Hears.TheVariants.{Head as HearsHead}
use Rattle.radio_headline.proofs.Logs.{replies, Each}
use Rattle.radio_headline.proofs.AppliedLemmas.{said_all, IsOpen, IsNotLast, IsOrderly}
use Rattle.radio_headline.proofs.Greetings.{Greeted}
use Rattle.radio_headline.proofs.Relays.RelayWords.{IsCut, IsNotRefused, IsNoUp, OwnRelay}
use Rattle.radio_headline.proofs.ReplyForms.{IsIdle}
use Rattle.radio_headline.proofs.RunLemmas.{IsOwn, IsIdling}

-- it has arrived, and has this number
abbrev pub arrival : Peer → ℕ → Entry
arrival peer id = record { event = Arrive peer; reply = Arrived id }

abbrev pub events_of : List Entry → List Event
events_of log = map (λ e. e.event) log

-- it draws, sends titles or leaves
abbrev pub IsIdleOrLeaving : ℕ → Entry → Type 0
IsIdleOrLeaving id e = IsIdle id e.event ⊎ (e.event ≡ Leave id)

-- it is of this client, and it asks for nothing by it
abbrev pub IsBehindRequest : ℕ → Event → Type 0
IsBehindRequest id (Push him block) = him ≡ id
IsBehindRequest id (SourceEnd him) = him ≡ id
IsBehindRequest id (Title him text) = him ≡ id
IsBehindRequest id (Draw him room) = him ≡ id
IsBehindRequest id (Leave him) = him ≡ id
IsBehindRequest id (RelayDown him) = him ≡ id
IsBehindRequest id event = ⊥

abbrev pub IsNoRequest : ℕ → Entry → Type 0
IsNoRequest id e = IsBehindRequest id e.event

-- by this event a client asks to listen to a mount or to feed it, or gives a command, or a relay comes up there
abbrev pub AsksForMount : Event → Type 0
AsksForMount (Listen asked) = Unit {0}
AsksForMount (Source asked) = Unit {0}
AsksForMount (Command asked) = Unit {0}
AsksForMount (RelayUp mount shown) = Unit {0}
AsksForMount event = ⊥

abbrev pub AsksNothing : Entry → Type 0
AsksNothing e = AsksForMount e.event → ⊥

-- a GET was read, and what was given is what is written of the replies
pub record ByGet (web : WebAnswers) (bytes : List ℕ) (log : List Entry) (given : List ℕ) : Type 0 where
  pub id : ℕ
  pub peer : Peer
  pub idle : List Entry
  pub request : RequestParts
  pub reply : Reply
  pub behind : List Entry
  pub in_order : log ≡ arrival peer id ∷ idle ++ record { event = asks_by_get web id request; reply = reply } ∷ behind
  pub idles : Each (IsIdling id) idle
  pub goes : IsOpen (asking web) (Arrived id ∷ replies idle)
  pub no_more : Each (IsIdleOrLeaving id) behind
  pub orderly : IsOrderly id log
  pub length : ℕ
  pub reading : IsReading ShowsRequest bytes (Ok (Whole request length))
  pub no_source : is_source request ≡ false
  pub is_get : bytes_eq request.method (codes "GET") ≡ true
  pub is_told : given ≡ told (asking web) (replies log)

-- a source's request was read, and what was pushed is a front of the data of its body
pub record Feeds (bytes : List ℕ) (log : List Entry) : Type 0 where
  pub id : ℕ
  pub peer : Peer
  pub idle : List Entry
  pub request : RequestParts
  pub reply : Reply
  pub behind : List Entry
  pub in_order : log ≡ arrival peer id ∷ idle ++ record { event = asks_to_feed id request; reply = reply } ∷ behind
  pub idles : Each (IsIdling id) idle
  pub no_more : Each (IsNoRequest id) behind
  pub orderly : IsOrderly id log
  pub length : ℕ
  pub reading : IsReading ShowsRequest bytes (Ok (Whole request length))
  pub source : is_source request ≡ true
  pub start : Place
  pub framed : option_map start_of (framing_of request) ≡ Some start
  pub rest : List ℕ
  pub front : pushed (events_of behind) ++ rest ≡ data_of start (drop length bytes)

-- a master's answer was read, and what was pushed is a front of its sound
pub record Pulls (bytes : List ℕ) (log : List Entry) : Type 0 where
  pub mount : List ℕ
  pub head : ResponseParts
  pub reply : Reply
  pub behind : List Entry
  pub in_order : log ≡ record { event = RelayUp mount (shown_in_response head); reply = reply } ∷ behind
  pub own : OwnRelay None log
  pub no_more : Each (λ e. IsNoUp e.event) behind
  pub cut : IsCut log
  pub length : ℕ
  pub reading : IsReading ShowsResponse bytes (Ok (Whole head length))
  pub interval : Option ℕ
  pub told : interval_in head ≡ Ok interval
  pub rest : List ℕ
  pub front : pushed (events_of behind) ++ rest ≡ sound_of_parts (stream_parts (stream_with interval) (drop length bytes))

-- what was given begins with the reply to its request
abbrev pub IsGreeted : (web : WebAnswers) → {bytes : List ℕ} {log : List Entry} → Feeds bytes log → List ℕ → Type 0
IsGreeted web f given = Greeted web f.id f.idle f.request f.reply given

-- the stream after the part that has come
abbrev pub stream_after : {bytes : List ℕ} {log : List Entry} → Pulls bytes log → PulledStream
stream_after {bytes = bytes} p = after_bytes (stream_with p.interval) (drop p.length bytes)

pub data Facts (web : WebAnswers) (bytes : List ℕ) (log : List Entry) (given : List ℕ) : Type 0 where
  HasAskedNothing : Each AsksNothing log → Facts web bytes log given
  HasSentGet : ByGet web bytes log given → Facts web bytes log given
  IsSource : (f : Feeds bytes log) → IsGreeted web f given → Facts web bytes log given
  IsPulling : Pulls bytes log → Facts web bytes log given

pub record IsClosed (web : WebAnswers) (bytes : List ℕ) (log : List Entry) (given : List ℕ) : Type 0 where
  pub own : Each (IsOwn log) log
  pub facts : Facts web bytes log given

-- what was given is what is written of the replies, and the conversation goes on from there
pub record IsTold (web : WebAnswers) (conversation : Conversation) (log : List Entry) (given : List ℕ) : Type 0 where
  pub says : conversation.says ≡ said_all (asking web) (replies log)
  pub goes : IsOpen (asking web) (replies log)
  pub is_told : given ≡ told (asking web) (replies log)

pub data Stage (web : WebAnswers) (bytes : List ℕ) (log : List Entry) (given : List ℕ) (conversation : Conversation) : Type 0 where
  AtHead : (idle : List Entry) → log ≡ arrival conversation.peer conversation.id ∷ idle → Each (IsIdling conversation.id) idle
      → conversation.hears ≡ HearsHead → conversation.held ≡ bytes → IsTold web conversation log given → Stage web bytes log given conversation
  AfterGet : ByGet web bytes log given → conversation.hears ≡ Nothing → IsTold web conversation log given → Stage web bytes log given conversation
  AtBody : (f : Feeds bytes log) → IsGreeted web f given → f.rest ≡ [] → conversation.hears ≡ Body (unfed (after f.start (drop f.length bytes)))
      → Stage web bytes log given conversation
  AfterBody : (f : Feeds bytes log) → IsGreeted web f given → conversation.hears ≡ Nothing → Stage web bytes log given conversation
  Refused : Each AsksNothing log → conversation.hears ≡ Nothing → Stage web bytes log given conversation

-- a client's connection that is open
pub record IsClient (web : WebAnswers) (bytes : List ℕ) (log : List Entry) (given : List ℕ) (conversation : Conversation) : Type 0 where
  pub others : List Entry
  pub arrived : log ≡ arrival conversation.peer conversation.id ∷ others
  pub his : Each (λ e. client_in e.event ≡ Some conversation.id) others
  pub goes_on : Each IsNotLast log
  pub stage : Stage web bytes log given conversation

pub data RelayStage (bytes : List ℕ) (log : List Entry) (pulling : Pulling) : Type 0 where
  AtAnswer : pulling.stage ≡ Head bytes → log ≡ [] → RelayStage bytes log pulling
  InAnswer : (p : Pulls bytes log) → pulling.stage ≡ Behind (stream_after p) → (pulling.number ≡ None) ⊎ (p.rest ≡ []) → Each IsNotRefused log
      → RelayStage bytes log pulling

-- a relay's connection that is open
pub record IsRelay (bytes : List ℕ) (log : List Entry) (pulling : Pulling) : Type 0 where
  pub own : OwnRelay None log
  pub number : pulling.number ≡ number_after None log
  pub stage : RelayStage bytes log pulling

-- what became of the label
abbrev pub IsSo : (web : WebAnswers) → Option (Option Connection) → List ℕ → List Entry → List ℕ → Type 0
IsSo web None bytes log given = (bytes ≡ []) × (log ≡ []) × (given ≡ [])
IsSo web (Some None) bytes log given = IsClosed web bytes log given
IsSo web (Some (Some (Client conversation))) bytes log given = IsClient web bytes log given conversation
IsSo web (Some (Some (Relay pulling))) bytes log given = IsRelay bytes log pulling
