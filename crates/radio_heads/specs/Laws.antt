-- Laws on readings, for callers that wait for a head, and on the answers that are read back.
use Rattle.std.specs.Prelude.{◌≡◌, ◌≢◌, ℕ, ◌≤◌, ◌<◌, ◌^◌, ◌⊎◌, List, [], ◌∷◌, ◌++◌, length, map, codes, decimal, Option, None, Some, Result, Ok, IsErr, IfSome}
use Rattle.std.specs.Prelude.{if◌then◌else◌, ◌==◌}
use Rattle.httparse.specs.Grammar.{trim_ows, RequestHead, ReadsRequest, print_request, ResponseHead, ReadsResponse, print_response}
use Rattle.radio_heads.specs.declared.outcome.Progress.{Progress}
use Rattle.radio_heads.specs.declared.outcome.Progress.TheVariants.{More}
use Rattle.radio_heads.specs.declared.outcome.HeadFault.{HeadFault}
use Rattle.radio_policy.specs.declared.rule.Status.{Status}
use Rattle.radio_heads.specs.declared.answer.Answer.{Answer}
use Rattle.radio_heads.specs.declared.answer.Answer.TheVariants.{Listener, Source, Continue, Denial, Text}
use Rattle.radio_heads.specs.declared.answer.TextKind.{TextKind}
use Rattle.radio_heads.specs.declared.answer.TextKind.TheVariants.{Plain}
use Rattle.radio_heads.specs.declared.answer.AboutHeaders.{AboutHeaders}
use Rattle.radio_heads.specs.declared.answer.Welcome.{Welcome}
use Rattle.radio_heads.specs.declared.response.Version.TheVariants.{Http10}
use Rattle.radio_heads.specs.Answer.{listener_text, sized_head, sized_text, denial_body, status_number, content_type}
use Rattle.radio_heads.specs.FieldValue.{IsFieldText}
use Rattle.radio_heads.specs.Head.{ShowsRequest, request_parts}
use Rattle.radio_heads.specs.Reading.{IsHead, IsReading, IsUnfinished}
use Rattle.radio_heads.specs.Response.{ResponseParts, ShowsResponse, response_parts}

-- two readings of the same bytes are equal, or both are faults
abbrev pub ReadingsAgree : {P : Type 0} → (List ℕ → P → Type 0) → Type 0
ReadingsAgree {P} Shows =
    (bytes : List ℕ) (r s : Result (Progress P) HeadFault)
    → IsReading Shows bytes r → IsReading Shows bytes s → (r ≡ s) ⊎ (IsErr r × IsErr s)

-- once a reading is not `More`, more bytes change nothing
abbrev pub IsStableReading : {P : Type 0} → (List ℕ → P → Type 0) → Type 0
IsStableReading {P} Shows =
    (bytes more : List ℕ) (r : Result (Progress P) HeadFault)
    → IsReading Shows bytes r → r ≢ Ok More → IsReading Shows (bytes ++ more) r

-- a head lies within the bytes that it was read from
abbrev pub HeadsLieWithin : {P : Type 0} → (List ℕ → P → Type 0) → Type 0
HeadsLieWithin {P} Shows = (bytes : List ℕ) (parts : P) (n : ℕ) → IsHead Shows bytes parts n → n ≤ length bytes

-- a front of unfinished bytes is unfinished
abbrev pub FrontsAreUnfinished : Type 0
FrontsAreUnfinished = (bytes more : List ℕ) → IsUnfinished (bytes ++ more) → IsUnfinished bytes

-- a request head of the grammar at the front, of at most 64 headers and 8192 bytes, is a head to a reading
abbrev pub RequestsAreFound : Type 0
RequestsAreFound =
    (bytes rest : List ℕ) (h : RequestHead) → ReadsRequest bytes h rest
    → length h.fields ≤ 64 → length (print_request h) ≤ 8192
    → IsHead ShowsRequest bytes (request_parts h) (length (print_request h))

-- the same for a response
abbrev pub ResponsesAreFound : Type 0
ResponsesAreFound =
    (bytes rest : List ℕ) (h : ResponseHead) → ReadsResponse bytes h rest
    → length h.fields ≤ 64 → length (print_response h) ≤ 8192
    → IsHead ShowsResponse bytes (response_parts h) (length (print_response h))

-- a header as it is read back: without the white space at the ends of its value
abbrev pub read_back : List ℕ × List ℕ → List ℕ × List ℕ
read_back header = (header.0, trim_ows header.1)

-- a header that is there only if its value is not empty
abbrev pub shown_header : List ℕ → List ℕ → List (List ℕ × List ℕ)
shown_header name [] = []
shown_header name (b ∷ value) = (name, b ∷ value) ∷ []

-- what a stream says of itself beyond its name and genre
abbrev pub about_headers : AboutHeaders → List (List ℕ × List ℕ)
about_headers about =
    shown_header (codes "icy-description") about.description
    ++ shown_header (codes "icy-url") about.url
    ++ shown_header (codes "icy-br") about.bitrate

-- the metadata interval, where one is given
abbrev pub interval_header : Option ℕ → List (List ℕ × List ℕ)
interval_header None = []
interval_header (Some n) = (codes "icy-metaint", decimal n) ∷ []

-- the challenge, for 401 alone
abbrev pub challenge_header : ℕ → List (List ℕ × List ℕ)
challenge_header n =
    if n == 401 then (codes "WWW-Authenticate", codes "Basic realm=\"radio\"") ∷ [] else []

-- the headers in the answer to a listener
abbrev pub listener_headers : Welcome → List (List ℕ × List ℕ)
listener_headers w =
    (codes "Content-Type", w.content_type) ∷ []
    ++ shown_header (codes "icy-name") w.name
    ++ shown_header (codes "icy-genre") w.genre
    ++ about_headers w.about
    ++ interval_header w.interval
    ++ (codes "Connection", codes "close") ∷ []

-- what the answer to a listener shows
abbrev pub listener_parts : Welcome → ResponseParts
listener_parts w = record { version = Http10; status = 200; headers = map read_back (listener_headers w) }

-- no value of it has a byte that would end its line
pub record IsCleanAbout (about : AboutHeaders) : Type 0 where
  pub description : IsFieldText about.description
  pub url : IsFieldText about.url
  pub bitrate : IsFieldText about.bitrate

-- no value of it has a byte that would end its line: so it is of every one that a program has, by the types of its values
pub record IsCleanWelcome (w : Welcome) : Type 0 where
  pub content_type : IsFieldText w.content_type
  pub name : IsFieldText w.name
  pub genre : IsFieldText w.genre
  pub about : IsCleanAbout w.about

-- the values from outside in an answer's headers are such: only a listener's has any
-- rule: Answers are read back
abbrev pub HasFieldTexts : Answer → Type 0
HasFieldTexts (Listener w) = IsCleanWelcome w
HasFieldTexts Source = Unit {0}
HasFieldTexts Continue = Unit {0}
HasFieldTexts (Denial status rule) = Unit {0}
HasFieldTexts (Text kind body) = Unit {0}

-- each value of it has at most 255 bytes
pub record IsShortAbout (about : AboutHeaders) : Type 0 where
  pub description : length about.description ≤ 255
  pub url : length about.url ≤ 255
  pub bitrate : length about.bitrate ≤ 255

-- each value of it has at most 255 bytes
pub record IsShortWelcome (w : Welcome) : Type 0 where
  pub content_type : length w.content_type ≤ 255
  pub name : length w.name ≤ 255
  pub genre : length w.genre ≤ 255
  pub about : IsShortAbout w.about

-- what the head of an answer with a body shows
abbrev pub sized_parts : ℕ → List ℕ → ℕ → ResponseParts
sized_parts status type size = record {
  version = Http10;
  status = status;
  headers =
      (codes "Content-Type", type) ∷ []
      ++ (codes "Content-Length", decimal size) ∷ []
      ++ challenge_header status
      ++ (codes "Connection", codes "close") ∷ [];
}

-- the answer to a listener is read back, whatever follows it
abbrev pub ListenerIsReadBack : Type 0
ListenerIsReadBack =
    (w : Welcome) (more : List ℕ) → IsCleanWelcome w → IfSome w.interval (λ n. n < 2 ^ 32) → length (listener_text w) ≤ 8192
    → IsHead ShowsResponse (listener_text w ++ more) (listener_parts w) (length (listener_text w))

-- the same where no value has more than 255 bytes, as none in the settings has
abbrev pub ShortListenerIsReadBack : Type 0
ShortListenerIsReadBack =
    (w : Welcome) (more : List ℕ) → IsCleanWelcome w → IfSome w.interval (λ n. n < 2 ^ 32) → IsShortWelcome w
    → IsHead ShowsResponse (listener_text w ++ more) (listener_parts w) (length (listener_text w))

-- the head of an answer with a body is read back, and the body follows it
abbrev pub IsReadBack : ℕ → List ℕ → List ℕ → Type 0
IsReadBack status type body =
    (more : List ℕ) → length body < 2 ^ 64
    → IsHead ShowsResponse (sized_text status type body ++ more) (sized_parts status type (length body))
    (length (sized_head status type (length body)))

-- a denial is read back
abbrev pub DenialIsReadBack : Type 0
DenialIsReadBack =
    (status : Status) (rule : List ℕ) → IsReadBack (status_number status) (content_type Plain) (denial_body rule)

-- a text is read back
abbrev pub TextIsReadBack : Type 0
TextIsReadBack = (kind : TextKind) (body : List ℕ) → IsReadBack 200 (content_type kind) body
