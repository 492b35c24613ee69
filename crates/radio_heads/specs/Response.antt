-- What a response head shows of itself.
use Rattle.std.specs.Prelude.{◌≡◌, ℕ, zero, suc, ◌≤◌, List, [], length, map}
use Rattle.httparse.specs.Grammar.{ResponseHead, ReadsResponse, status_code}
use Rattle.httparse.specs.Spans.{name_and_value}
use Rattle.radio_heads.specs.declared.response.Version.{Version}
use Rattle.radio_heads.specs.declared.response.Version.TheVariants.{Http10, Http11}

-- an answer: its version, its status and its headers
pub record ResponseParts : Type 0 where
  pub version : Version
  pub status : ℕ
  pub headers : List (List ℕ × List ℕ)

-- the version of that minor number
abbrev pub version_of : ℕ → Version
version_of zero = Http10
version_of (suc _) = Http11

-- what a head of the grammar shows
abbrev pub response_parts : ResponseHead → ResponseParts
response_parts h = record {
  version = version_of h.minor;
  status = status_code h;
  headers = map name_and_value h.fields;
}

-- the whole front is a response head of at most 64 headers, and these are its parts
abbrev pub ShowsResponse : List ℕ → ResponseParts → Type 0
ShowsResponse front parts =
    (h : ResponseHead) × ReadsResponse front h [] × (length h.fields ≤ 64) × (parts ≡ response_parts h)
