-- Laws on the answers that the pages of web sites read.
use Rattle.std.specs.Prelude.{◌≡◌, ℕ, ◌≤◌, ◌<◌, ◌^◌, List, [], ◌∷◌, ◌++◌, length, map, codes, decimal, Option, None, Some, IfSome}
use Rattle.radio_heads.specs.declared.answer.TextKind.{TextKind}
use Rattle.radio_heads.specs.declared.answer.Welcome.{Welcome}
use Rattle.radio_heads.specs.declared.response.Version.TheVariants.{Http10}
use Rattle.radio_heads.specs.Answer.{content_type, listener_text, sized_text}
use Rattle.radio_heads.specs.FieldValue.{IsFieldText}
use Rattle.radio_heads.specs.Laws.{IsCleanWelcome, IsShortWelcome, about_headers, interval_header, read_back, shown_header}
use Rattle.radio_heads.specs.Reading.{IsHead}
use Rattle.radio_heads.specs.Response.{ResponseParts, ShowsResponse}
use Rattle.radio_heads.specs.WebAnswer.{IsCleanOrigin, html, page_head, page_text, shared_head, shared_text, stream_head_text}

-- where nothing is said of origins, a stream and a text are those of other answers
-- rule: Answers are read back
pub record IsUnchanged : Type 0 where
  pub stream : (w : Welcome) → stream_head_text None w ≡ listener_text w
  pub text : (kind : TextKind) (body : List ℕ) → shared_text None (content_type kind) body ≡ sized_text 200 (content_type kind) body

-- whose pages may read an answer, where that is said
abbrev pub origin_header : Option (List ℕ) → List (List ℕ × List ℕ)
origin_header None = []
origin_header (Some origin) = (codes "Access-Control-Allow-Origin", origin) ∷ []

-- the headers of a stream, of a text and of a page
abbrev pub stream_headers : Option (List ℕ) → Welcome → List (List ℕ × List ℕ)
stream_headers origin w =
    (codes "Content-Type", w.content_type) ∷ []
    ++ shown_header (codes "icy-name") w.name
    ++ shown_header (codes "icy-genre") w.genre
    ++ about_headers w.about
    ++ interval_header w.interval
    ++ origin_header origin
    ++ (codes "Connection", codes "close") ∷ []

abbrev pub shared_headers : Option (List ℕ) → List ℕ → ℕ → List (List ℕ × List ℕ)
shared_headers origin type size =
    (codes "Content-Type", type) ∷ []
    ++ (codes "Content-Length", decimal size) ∷ []
    ++ origin_header origin
    ++ (codes "Connection", codes "close") ∷ []

abbrev pub page_headers : Option (List ℕ) → List ℕ → ℕ → List (List ℕ × List ℕ)
page_headers origin policy size =
    (codes "Content-Type", html) ∷ []
    ++ (codes "Content-Length", decimal size) ∷ []
    ++ (codes "Content-Security-Policy", policy) ∷ []
    ++ origin_header origin
    ++ (codes "Connection", codes "close") ∷ []

-- what an answer with these headers shows
abbrev pub parts_with : List (List ℕ × List ℕ) → ResponseParts
parts_with headers = record { version = Http10; status = 200; headers = map read_back headers }

-- the origin has no more bytes than one in the settings
abbrev pub IsShortOrigin : Option (List ℕ) → Type 0
IsShortOrigin origin = IfSome origin (λ o. length o ≤ 255)

-- each is read back with its headers, whatever follows it; values without the white space at their ends
-- rule: Answers are read back
pub record WebAnswersAreReadBack : Type 0 where
  pub stream : (origin : Option (List ℕ)) (w : Welcome) (more : List ℕ)
      → IsCleanOrigin origin → IsShortOrigin origin → IsCleanWelcome w → IsShortWelcome w → IfSome w.interval (λ n. n < 2 ^ 32)
      → IsHead ShowsResponse (stream_head_text origin w ++ more) (parts_with (stream_headers origin w)) (length (stream_head_text origin w))
  pub text : (origin : Option (List ℕ)) (kind : TextKind) (body more : List ℕ)
      → IsCleanOrigin origin → IsShortOrigin origin → length body < 2 ^ 64
      → IsHead ShowsResponse (shared_text origin (content_type kind) body ++ more)
      (parts_with (shared_headers origin (content_type kind) (length body)))
      (length (shared_head origin (content_type kind) (length body)))
  pub page : (origin : Option (List ℕ)) (policy body more : List ℕ)
      → IsCleanOrigin origin → IsShortOrigin origin → IsFieldText policy → length policy ≤ 4096 → length body < 2 ^ 64
      → IsHead ShowsResponse (page_text origin policy body ++ more)
      (parts_with (page_headers origin policy (length body)))
      (length (page_head origin policy (length body)))
