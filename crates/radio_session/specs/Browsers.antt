-- Commands that a browser may send for the page of another site, without its user's knowledge.
use Rattle.std.specs.Prelude.{ℕ, Bool, true, false, not, ◌&&◌, ◌||◌, List, codes, Option, None, Some}
use Rattle.std.specs.Option.{is_some}
use Rattle.std.specs.Str.{bytes_eq}
use Rattle.radio_events.specs.declared.command.Asked.{Asked}
use Rattle.radio_events.specs.declared.command.Asked.TheVariants.{Command}
use Rattle.radio_events.specs.declared.command.Command.TheVariants.{SetTitle}
use Rattle.radio_heads.specs.Head.{RequestParts}
use Rattle.radio_heads.specs.Headers.{value_of}
use Rattle.radio_answers.specs.declared.web_answers.WebAnswers.{WebAnswers}

-- `Sec-Fetch-Site` has one of these values if no other site sent the request: the station's own page or the user did
-- (Fetch Metadata Request Headers, section 2.3)
abbrev pub is_own_site : List ℕ → Bool
is_own_site site = bytes_eq site (codes "same-origin") || bytes_eq site (codes "none")

-- `Accept-Language` names a language (RFC 9110, section 12.5.4); a program that sends this header at all sends `*`
abbrev pub names_language : Option (List ℕ) → Bool
names_language None = false
names_language (Some languages) = not (bytes_eq languages (codes "*"))

-- a browser sent the request: for a page, whose origin it names (RFC 6454, section 7), or for its user, whose language it names
-- rule: Commands by a browser
abbrev pub is_from_browser : RequestParts → Bool
is_from_browser request = is_some (value_of (codes "Origin") request.headers) || names_language (value_of (codes "Accept-Language") request.headers)

-- the site that a browser names is another one; if it names none, any request of a browser counts as another site's
abbrev pub is_other_site : Bool → Option (List ℕ) → Bool
is_other_site from_browser None = from_browser
is_other_site from_browser (Some site) = not (is_own_site site)

-- the page of another site may have sent the request
-- rule: Commands by a browser
abbrev pub may_be_forged : RequestParts → Bool
may_be_forged request = is_other_site (is_from_browser request) (value_of (codes "Sec-Fetch-Site") request.headers)

-- a command that changes something other than a title
-- rule: Commands by a browser
abbrev pub is_change : Asked → Bool
is_change (Command (SetTitle mount title)) = false
is_change (Command command) = true
is_change asked = false

-- the pair does not count for a change that the page of another site may have sent, unless the settings allow such commands
-- rule: Commands by a browser
abbrev pub is_refused_pair : WebAnswers → RequestParts → Asked → Bool
is_refused_pair web request asked = not web.browser_commands && is_change asked && may_be_forged request
