-- Laws on answers with the headers that the settings add.
use Rattle.std.specs.Prelude.{◌≡◌, ℕ, Bool, ◌<◌, ◌≤◌, ◌^◌, if◌then◌else◌, List, [], ◌∷◌, ◌++◌, length, map, codes, Option, IfSome}
use Rattle.radio_heads.specs.declared.additions.Additions.{Additions}
use Rattle.radio_heads.specs.declared.answer.TextKind.{TextKind}
use Rattle.radio_heads.specs.declared.answer.TextKind.TheVariants.{Plain}
use Rattle.radio_heads.specs.declared.answer.Welcome.{Welcome}
use Rattle.radio_heads.specs.declared.response.Version.TheVariants.{Http10}
use Rattle.radio_heads.specs.Additions.{with_additions}
use Rattle.radio_heads.specs.Answer.{content_type, denial_body, denial_text, sized_head, sized_text, source_text, status_number}
use Rattle.radio_heads.specs.FieldValue.{IsFieldText}
use Rattle.radio_heads.specs.Laws.{IsCleanWelcome, IsShortWelcome, read_back, sized_parts}
use Rattle.radio_heads.specs.Reading.{IsHead}
use Rattle.radio_heads.specs.Response.{ResponseParts, ShowsResponse}
use Rattle.radio_heads.specs.WebAnswer.{IsCleanOrigin, page_head, page_text, shared_head, shared_text, stream_head_text}
use Rattle.radio_heads.specs.WebLaws.{IsShortOrigin, page_headers, parts_with, shared_headers, stream_headers}
use Rattle.radio_policy.specs.declared.rule.Status.{Status}

abbrev pub cache_header : Bool → List (List ℕ × List ℕ)
cache_header forbids = if forbids then (codes "Cache-Control", codes "no-cache, no-store") ∷ [] else []

abbrev pub sandbox_headers : Bool → List (List ℕ × List ℕ)
sandbox_headers sandboxed =
    if sandboxed
    then (codes "Content-Security-Policy", codes "sandbox") ∷ (codes "X-Content-Type-Options", codes "nosniff") ∷ []
    else []

-- the headers that are added
abbrev pub added_headers : Additions → List (List ℕ × List ℕ)
added_headers additions = cache_header additions.forbids_caching ++ sandbox_headers additions.is_sandboxed

-- what an answer of this status with these headers shows
abbrev pub parts_of_status : ℕ → List (List ℕ × List ℕ) → ResponseParts
parts_of_status status headers = record { version = Http10; status = status; headers = map read_back headers }

-- Each answer with these headers is read back with them before its own, whatever follows it.
pub record AdditionsAreReadBack (additions : Additions) : Type 0 where
  pub source : (more : List ℕ)
      → IsHead ShowsResponse (with_additions additions source_text ++ more) (parts_with (added_headers additions)) (length (with_additions additions source_text))
  pub denial : (status : Status) (rule more : List ℕ) → length (denial_body rule) < 2 ^ 64
      → let head = sized_head (status_number status) (content_type Plain) (length (denial_body rule)) in
      IsHead ShowsResponse (with_additions additions (denial_text status rule) ++ more)
      (parts_of_status (status_number status)
      (added_headers additions ++ (sized_parts (status_number status) (content_type Plain) (length (denial_body rule))).headers))
      (length (with_additions additions head))
  pub command : (kind : TextKind) (body more : List ℕ) → length body < 2 ^ 64
      → IsHead ShowsResponse (with_additions additions (sized_text 200 (content_type kind) body) ++ more)
      (parts_with (added_headers additions ++ (sized_parts 200 (content_type kind) (length body)).headers))
      (length (with_additions additions (sized_head 200 (content_type kind) (length body))))
  pub stream : (origin : Option (List ℕ)) (w : Welcome) (more : List ℕ)
      → IsCleanOrigin origin → IsShortOrigin origin → IsCleanWelcome w → IsShortWelcome w → IfSome w.interval (λ n. n < 2 ^ 32)
      → IsHead ShowsResponse (with_additions additions (stream_head_text origin w) ++ more) (parts_with (added_headers additions ++ stream_headers origin w))
      (length (with_additions additions (stream_head_text origin w)))
  pub text : (origin : Option (List ℕ)) (kind : TextKind) (body more : List ℕ)
      → IsCleanOrigin origin → IsShortOrigin origin → length body < 2 ^ 64
      → IsHead ShowsResponse (with_additions additions (shared_text origin (content_type kind) body) ++ more)
      (parts_with (added_headers additions ++ shared_headers origin (content_type kind) (length body)))
      (length (with_additions additions (shared_head origin (content_type kind) (length body))))
  pub page : (origin : Option (List ℕ)) (policy body more : List ℕ)
      → IsCleanOrigin origin → IsShortOrigin origin → IsFieldText policy → length policy ≤ 4096 → length body < 2 ^ 64
      → IsHead ShowsResponse (with_additions additions (page_text origin policy body) ++ more)
      (parts_with (added_headers additions ++ page_headers origin policy (length body)))
      (length (with_additions additions (page_head origin policy (length body))))
