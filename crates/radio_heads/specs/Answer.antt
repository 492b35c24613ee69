-- The text of each answer: its lines in their order, each ended by CR LF, and its body.
use Rattle.std.specs.Prelude.{ℕ, List, [], ◌∷◌, ◌++◌, length, codes, decimal, Option, None, Some, if◌then◌else◌, ◌==◌}
use Rattle.http.specs.StatusCode.{status_text}
use Rattle.httparse.specs.Ascii.{crlf_bytes}
use Rattle.radio_heads.specs.declared.answer.Answer.{Answer as AnyAnswer}
use Rattle.radio_heads.specs.declared.answer.Answer.TheVariants.{Listener, Source, Continue, Denial, Text}
use Rattle.radio_heads.specs.declared.answer.AboutHeaders.{AboutHeaders}
use Rattle.radio_heads.specs.declared.answer.Welcome.{Welcome}
use Rattle.radio_policy.specs.declared.rule.Status.{Status}
use Rattle.radio_policy.specs.declared.rule.Status.TheVariants.{BadRequest, Unauthorized, Forbidden, NotFound}
use Rattle.radio_heads.specs.declared.answer.TextKind.{TextKind}
use Rattle.radio_heads.specs.declared.answer.TextKind.TheVariants.{Plain, Json}

-- a line and its end
abbrev pub line : List ℕ → List ℕ
line text = text ++ crlf_bytes

-- a header
abbrev pub header_line : List ℕ → List ℕ → List ℕ
header_line name value = line (name ++ codes ": " ++ value)

-- a header that is there only if its value is not empty
abbrev pub shown_line : List ℕ → List ℕ → List ℕ
shown_line name [] = []
shown_line name (b ∷ value) = header_line name (b ∷ value)

-- what a stream says of itself beyond its name and genre
-- rule: Icecast heads
abbrev pub about_lines : AboutHeaders → List ℕ
about_lines about =
    shown_line (codes "icy-description") about.description
    ++ shown_line (codes "icy-url") about.url
    ++ shown_line (codes "icy-br") about.bitrate

-- the metadata interval, where one is given
abbrev pub interval_line : Option ℕ → List ℕ
interval_line None = []
interval_line (Some n) = header_line (codes "icy-metaint") (decimal n)

-- the challenge to send a name and a password, for 401 alone
abbrev pub challenge_line : ℕ → List ℕ
challenge_line n = if n == 401 then header_line (codes "WWW-Authenticate") (codes "Basic realm=\"radio\"") else []

-- the status line: the version, the number and its phrase
unfoldable pub status_line : List ℕ → ℕ → List ℕ
status_line version status = line (version ++ codes " " ++ status_text status)

-- the number of a denial's status
abbrev pub status_number : Status → ℕ
status_number BadRequest = 400
status_number Unauthorized = 401
status_number Forbidden = 403
status_number NotFound = 404

-- the media type of a text
abbrev pub content_type : TextKind → List ℕ
content_type Plain = codes "text/plain; charset=utf-8"
content_type Json = codes "application/json"

-- a listener is admitted to a stream of this type, name and genre, with metadata at each interval where one is given
abbrev pub listener_text : Welcome → List ℕ
listener_text w =
    status_line (codes "HTTP/1.0") 200
    ++ header_line (codes "Content-Type") w.content_type
    ++ shown_line (codes "icy-name") w.name
    ++ shown_line (codes "icy-genre") w.genre
    ++ about_lines w.about
    ++ interval_line w.interval
    ++ header_line (codes "Connection") (codes "close")
    ++ line []

-- a source is admitted
abbrev pub source_text : List ℕ
source_text = status_line (codes "HTTP/1.0") 200 ++ line []

-- a source may send its body
abbrev pub continue_text : List ℕ
continue_text = status_line (codes "HTTP/1.1") 100 ++ line []

-- the head of an answer of so many bytes
abbrev pub sized_head : ℕ → List ℕ → ℕ → List ℕ
sized_head status type size =
    status_line (codes "HTTP/1.0") status
    ++ header_line (codes "Content-Type") type
    ++ header_line (codes "Content-Length") (decimal size)
    ++ challenge_line status
    ++ header_line (codes "Connection") (codes "close")
    ++ line []

-- an answer with a body: its head, and the body
abbrev pub sized_text : ℕ → List ℕ → List ℕ → List ℕ
sized_text status type body = sized_head status type (length body) ++ body

-- the body of a denial names the rule, and ends with LF alone
abbrev pub denial_body : List ℕ → List ℕ
denial_body rule = codes "denied: " ++ rule ++ codes "\n"

-- a request is denied by that rule
abbrev pub denial_text : Status → List ℕ → List ℕ
denial_text status rule = sized_text (status_number status) (content_type Plain) (denial_body rule)

-- the text of an answer
-- rule: Answers are read back
abbrev pub answer_text : AnyAnswer → List ℕ
answer_text (Listener welcome) = listener_text welcome
answer_text Source = source_text
answer_text Continue = continue_text
answer_text (Denial status rule) = denial_text status rule.now
answer_text (Text kind body) = sized_text 200 (content_type kind) body.now
