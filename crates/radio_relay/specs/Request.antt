-- What a relay sends to its master, line by line.
use Rattle.std.specs.Prelude.{ℕ, Bool, ◌==◌, ◌||◌, List, [], ◌∷◌, ◌++◌, codes, decimal, Option, None, Some, if◌then◌else◌}
use Rattle.std.specs.Char.{is_ascii_alphanumeric}
use Rattle.std.specs.List.{flat_map}
use Rattle.base64.specs.Engines.{standard}
use Rattle.base64.specs.GeneralPurpose.{encode_of}
use Rattle.percent_encoding.specs.Percent.{percent_encode_byte}
use Rattle.radio_heads.specs.Answer.{line, header_line}
use Rattle.radio_settings_values.specs.declared.settings.Login.{Login}
use Rattle.radio_settings_values.specs.declared.settings.Master.{Master}
use Rattle.radio_settings_values.specs.declared.settings.RelaySetting.{RelaySetting}
use Rattle.radio_settings_values.specs.declared.settings.SlaveSetting.{SlaveSetting}

-- a byte that is written as it is in a path: a letter, a digit, or one of `-`, `.`, `_`, `~` and `/` (RFC 3986, sections 2.3 and
-- 3.3)
abbrev pub is_path_byte : ℕ → Bool
is_path_byte b = is_ascii_alphanumeric b || b == 45 || b == 46 || b == 95 || b == 126 || b == 47

-- a byte in a path: itself, or `%` and two upper-case hexadecimal digits
abbrev pub path_byte : ℕ → List ℕ
path_byte b = if is_path_byte b then b ∷ [] else percent_encode_byte b

-- the name of a mount as the path of a request
unfoldable pub path_text : List ℕ → List ℕ
path_text mount = flat_map path_byte mount

-- the server and its port
abbrev pub host : Master → List ℕ
host master = master.server ++ codes ":" ++ decimal master.port

-- a user and a password with a colon between them
abbrev pub pair_text : Login → List ℕ
pair_text login = login.username ++ codes ":" ++ login.password

-- the same as the value of a header `Authorization` (RFC 7617, section 2)
abbrev pub basic_value : Login → List ℕ
basic_value login = codes "Basic " ++ encode_of standard (pair_text login)

abbrev pub login_line : Login → List ℕ
login_line login = header_line (codes "Authorization") (basic_value login)

-- the same if a login is sent
abbrev pub login_lines : Option Login → List ℕ
login_lines None = []
login_lines (Some login) = login_line login

-- the request line, and the headers that each request has
abbrev pub request_start : List ℕ → Master → List ℕ
request_start path master =
    line (codes "GET " ++ path ++ codes " HTTP/1.0")
    ++ header_line (codes "Host") (host master)
    ++ header_line (codes "User-Agent") (codes "radiod")

-- a relay asks for its master's mount, with metadata
-- rule: Relay request
abbrev pub request_text : RelaySetting → List ℕ
request_text relay =
    request_start (path_text relay.mount) relay.master
    ++ header_line (codes "Icy-MetaData") (codes "1")
    ++ login_lines relay.login
    ++ line []

-- a slave asks for the list of its master's streams
abbrev pub list_request : SlaveSetting → List ℕ
list_request slave =
    request_start (codes "/admin/streamlist.txt") slave.master
    ++ login_line slave.login
    ++ line []
