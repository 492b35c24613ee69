-- How the data of a source arrive, by its head (RFC 9112, section 6).
use Rattle.std.specs.Prelude.{ℕ, Bool, false, ◌&&◌, ◌||◌, if◌then◌else◌, List, codes, Option, None, Some, option_map}
use Rattle.std.specs.Str.{bytes_eq}
use Rattle.radio_texts.specs.Numbers.{number_of}
use Rattle.radio_heads.specs.Head.{RequestParts}
use Rattle.radio_heads.specs.Headers.{is_same_name, value_of}
use Rattle.radio_source.specs.Place.{Place, plain_start, sized_start, chunked_start}
use Rattle.radio_session.specs.declared.session.framing.Framing.{Framing}
use Rattle.radio_session.specs.declared.session.framing.Framing.TheVariants.{Plain, Sized, Chunked}
use Rattle.radio_session.specs.declared.session.Greeting.{Greeting}
use Rattle.radio_session.specs.declared.session.Greeting.TheVariants.{Welcome, Continue}

-- the coding `identity` counts as none
abbrev pub unless_identity : Option (List ℕ) → Option (List ℕ)
unless_identity None = None
unless_identity (Some coding) = if is_same_name coding (codes "identity") then None else Some coding

-- the coding `chunked`; no other is known
abbrev pub coded : List ℕ → Option Framing
coded coding = if is_same_name coding (codes "chunked") then Some Chunked else None

-- a length is a number of 64 bits, in decimal digits alone
abbrev pub sized : List ℕ → Option Framing
sized length = option_map Sized (number_of 10 18446744073709551615 length)

-- the framing by the coding and the length of a head, which has at most one of them
-- rule: Framing; Two lengths; Bad framing
abbrev pub framed_by : Option (List ℕ) → Option (List ℕ) → Option Framing
framed_by None None = Some Plain
framed_by None (Some length) = sized length
framed_by (Some coding) None = coded coding
framed_by (Some coding) (Some length) = None

abbrev pub is_put : RequestParts → Bool
is_put request = bytes_eq request.method (codes "PUT")

-- the methods by which a source feeds a mount
-- rule: Source request
abbrev pub is_source : RequestParts → Bool
is_source request = bytes_eq request.method (codes "SOURCE") || is_put request

-- the data of a PUT arrive as its headers say, those of a SOURCE are plain
-- rule: Framing
abbrev pub framing_of : RequestParts → Option Framing
framing_of request =
    if is_put request
    then framed_by (unless_identity (value_of (codes "Transfer-Encoding") request.headers)) (value_of (codes "Content-Length") request.headers)
    else Some Plain

-- the place before the first data
-- rule: Framing
abbrev pub start_of : Framing → Place
start_of Plain = plain_start
start_of (Sized length) = sized_start length
start_of Chunked = chunked_start

-- the value of a header is this word, in any case of letters
abbrev pub is_word : List ℕ → Option (List ℕ) → Bool
is_word word None = false
is_word word (Some value) = is_same_name value word

-- what the source reads first: `100 Continue` if it waits for that before it sends its data (RFC 9110, section 10.1.1)
-- rule: Greeting of a source
abbrev pub greeting_of : RequestParts → Greeting
greeting_of request =
    if is_put request && is_word (codes "100-continue") (value_of (codes "Expect") request.headers) then Continue else Welcome
