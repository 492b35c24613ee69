-- What the head of a master's answer says of the stream behind it.
use Rattle.std.specs.Prelude.{ℕ, zero, suc, not, ◌==◌, List, [], codes, Option, None, Some, is_some, unwrap_or, Result, Ok, Err, if◌then◌else◌}
use Rattle.radio_heads.specs.Headers.{default_content_type, value_of}
use Rattle.radio_heads.specs.Response.{ResponseParts}
use Rattle.radio_values.specs.declared.about.About.{About}
use Rattle.radio_values.specs.declared.field.Shown.{Shown}
use Rattle.radio_values.specs.About.{about_of}
use Rattle.radio_values.specs.Shown.{shown_of}
use Rattle.radio_texts.specs.Numbers.{number_of}
use Rattle.radio_relay.specs.declared.fault.PullFault.{PullFault}
use Rattle.radio_relay.specs.declared.fault.PullFault.TheVariants.{Status, BadHead, BadMetaint}

-- the value of a header, or the other if there is no such header; an empty value is one
abbrev pub response_value_or : List ℕ → List ℕ → ResponseParts → List ℕ
response_value_or other name head = unwrap_or (value_of name head.headers) other

-- what else it shows: a description, a URL and a bit rate; no header has the parameters of the audio
-- rule: Head of a master
abbrev pub about_in_response : ResponseParts → About
about_in_response head = about_of
    (response_value_or [] (codes "icy-description") head)
    (response_value_or [] (codes "icy-url") head)
    (response_value_or [] (codes "icy-br") head)
    []

-- a type, a name and a genre; if it names no type, the one that Icecast takes then
abbrev pub named_in_response : ResponseParts → Shown
named_in_response head = shown_of
    (response_value_or default_content_type (codes "Content-Type") head)
    (response_value_or [] (codes "icy-name") head)
    (response_value_or [] (codes "icy-genre") head)

-- what it shows: these, and what else the head says of the stream
-- rule: Head of a master
abbrev pub shown_in_response : ResponseParts → Shown
shown_in_response head = record (named_in_response head) { about = about_in_response head }

-- the longest metadata interval, in bytes
abbrev pub max_interval : ℕ
max_interval = 16777216

-- the interval of a number: one of 1 byte at least
abbrev pub interval_of : Option ℕ → Result (Option ℕ) PullFault
interval_of None = Err BadMetaint
interval_of (Some zero) = Err BadMetaint
interval_of (Some (suc n)) = Ok (Some (suc n))

-- the interval of the header `icy-metaint`: without it there are no metadata
abbrev pub header_interval : Option (List ℕ) → Result (Option ℕ) PullFault
header_interval None = Ok None
header_interval (Some text) = interval_of (number_of 10 max_interval text)

-- the metadata interval of the stream, if it has one, or the first fault of the head
-- rule: Bad pull
abbrev pub interval_in : ResponseParts → Result (Option ℕ) PullFault
interval_in head =
    if not (head.status == 200) then Err (Status head.status)
    else if is_some (value_of (codes "Transfer-Encoding") head.headers) then Err BadHead
    else header_interval (value_of (codes "icy-metaint") head.headers)
