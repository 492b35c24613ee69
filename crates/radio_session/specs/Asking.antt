-- The event that a request means.
use Rattle.std.specs.Prelude.{ℕ, nat_eq, Bool, ◌||◌, if◌then◌else◌, List, [], codes, Option, None, unwrap_or}
use Rattle.std.specs.List.{starts_with}
use Rattle.std.specs.Str.{bytes_eq}
use Rattle.std.specs.Option.{option_and_then}
use Rattle.percent_encoding.specs.Percent.{percent_decode}
use Rattle.radio_creds.specs.Authorization.{basic_pair}
use Rattle.radio_creds.specs.Credentials.{Credentials}
use Rattle.radio_values.specs.declared.about.About.{About}
use Rattle.radio_values.specs.declared.field.Shown.{Shown}
use Rattle.radio_values.specs.About.{about_of}
use Rattle.radio_values.specs.Shown.{shown_of}
use Rattle.radio_heads.specs.Head.{RequestParts}
use Rattle.radio_heads.specs.Headers.{default_content_type, value_of}
use Rattle.radio_answers.specs.declared.web_answers.WebAnswers.{WebAnswers}
use Rattle.radio_session.specs.Browsers.{is_refused_pair}
use Rattle.radio_session.specs.Framing.{is_word}
use Rattle.radio_admin.specs.Kinds.{command_path}
use Rattle.radio_admin.specs.declared.kind.CommandKind.TheVariants.{Status}
use Rattle.radio_session.specs.Commands.{asked_in}
use Rattle.radio_events.specs.declared.command.Asked.{Asked}
use Rattle.radio_events.specs.declared.event.Event.{Event}
use Rattle.radio_events.specs.declared.event.Event.TheVariants.{Source, Listen, Command}
use Rattle.radio_events.specs.declared.event.PageVisit.{PageVisit}

-- the user and the password of a request, if its `Authorization` has them (RFC 7617)
-- rule: Source request; Listen request
abbrev pub pair_of : RequestParts → Option Credentials
pair_of request = option_and_then basic_pair (value_of (codes "Authorization") request.headers)

-- the value of a header, or the other value if there is no such header; an empty value counts as a value
abbrev pub value_or : List ℕ → List ℕ → RequestParts → List ℕ
value_or other name request = unwrap_or (value_of name request.headers) other

-- the description, URL, bit rate and audio parameters that a source gives of its stream
-- rule: Shown fields
abbrev pub about_by : RequestParts → About
about_by request = about_of
    (value_or [] (codes "ice-description") request)
    (value_or [] (codes "ice-url") request)
    (value_or [] (codes "ice-bitrate") request)
    (value_or [] (codes "ice-audio-info") request)

-- the type, name and genre that a source gives; if it names no type, the type is Icecast's default
abbrev pub named_by : RequestParts → Shown
named_by request = shown_of
    (value_or default_content_type (codes "Content-Type") request)
    (value_or [] (codes "ice-name") request)
    (value_or [] (codes "ice-genre") request)

-- all that a source says of its stream
-- rule: Shown fields
abbrev pub shown_by : RequestParts → Shown
shown_by request = record (named_by request) { about = about_by request }

-- a listener wants metadata between the data (ICY convention)
-- rule: Metadata interval
abbrev pub wants_metadata : RequestParts → Bool
wants_metadata request = is_word (codes "1") (value_of (codes "Icy-MetaData") request.headers)

-- the path of the target, percent decoded (RFC 3986, section 2.1); a `+` stays a `+`
-- rule: Percent decoding
abbrev pub path_in : RequestParts → List ℕ
path_in request = percent_decode request.path

-- the query of the target, or an empty one if it has none
abbrev pub query_in : RequestParts → List ℕ
query_in request = unwrap_or request.query []

-- a path of commands, or the path of the status that everybody may see
-- rule: Commands by GET
abbrev pub is_for_commands : List ℕ → Bool
is_for_commands path = starts_with nat_eq path (codes "/admin/") || bytes_eq path (command_path Status)

-- a client asks to feed the mount of its path
-- rule: Source request
abbrev pub asks_to_feed : ℕ → RequestParts → Event
asks_to_feed id request = Source (record { id = id; mount = path_in request; pair = pair_of request; shown = shown_by request })

-- the host by which the client calls the server, if it asks for the status, which shows full
-- addresses
-- rule: Address of a stream
abbrev pub host_for : List ℕ → RequestParts → List ℕ
host_for path request = if bytes_eq path (codes "/status-json.xsl") then value_or [] (codes "Host") request else []

-- what a page needs to know of a client that asks for this path: the host that it named, and when the server started
abbrev pub visit_for : WebAnswers → List ℕ → RequestParts → PageVisit
visit_for web path request = record { host = host_for path request; server_start = web.server_start }

-- a client asks to listen to the mount of this path
abbrev pub asks_to_hear : WebAnswers → ℕ → RequestParts → List ℕ → Event
asks_to_hear web id request path = Listen (record {
  id = id;
  mount = path;
  pair = pair_of request;
  wants_metadata = wants_metadata request;
  visit = visit_for web path request;
})

-- the pair that counts for this request: none if the pair is refused to a browser
-- rule: Commands by a browser
abbrev pub pair_for : WebAnswers → RequestParts → Asked → Option Credentials
pair_for web request asked = if is_refused_pair web request asked then None else pair_of request

-- a client gives the command of this path
-- rule: Commands by GET
abbrev pub gives_command : WebAnswers → ℕ → RequestParts → List ℕ → Event
gives_command web id request path =
    let asked = asked_in path (query_in request) in Command (record { id = id; asked = asked; pair = pair_for web request asked })

-- A GET is a command if its path is one of commands. Else it asks to listen to the mount of its path.
-- rule: Commands by GET; Listen request
abbrev pub asks_by_get : WebAnswers → ℕ → RequestParts → Event
asks_by_get web id request =
    let path = path_in request in if is_for_commands path then gives_command web id request path else asks_to_hear web id request path
