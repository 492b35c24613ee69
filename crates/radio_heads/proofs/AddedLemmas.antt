-- Answers with the headers that are added are read back with them.
use Rattle.std.proofs.Common.{◌≡◌, ℕ, ◌+◌, ◌<◌, ◌≤◌, ◌^◌, ◌==◌, Bool, true, false, List, [], ◌∷◌, ◌++◌, length, Option, codes, refl, sym, ap, ◌∙◌, subst, arith}
use Rattle.std.proofs.Common.{append_assoc, append-nil, length-append}
use Rattle.std.specs.Prelude.{All, IfSome, if◌then◌else◌}
use Rattle.std.specs.List.{flat_map}
use Rattle.std.proofs.lemmas.List.Concat.{flat_map-append}
use Rattle.std.proofs.lemmas.List.Elements.{All-cons, All-nil, All-append}
use Rattle.httparse.specs.Grammar.{is_token_byte, trim_ows}
use Rattle.radio_policy.specs.declared.rule.Status.{Status}
use Rattle.radio_policy.specs.declared.rule.Status.TheVariants.{BadRequest, Unauthorized, Forbidden, NotFound}
use Rattle.radio_heads.specs.declared.additions.Additions.{Additions}
use Rattle.radio_heads.specs.declared.answer.TextKind.TheVariants.{Plain}
use Rattle.radio_heads.specs.Additions.{added_lines, behind_first_line, cache_lines, sandbox_lines, with_additions}
use Rattle.radio_heads.specs.AdditionLaws.{AdditionsAreReadBack, added_headers, cache_header, parts_of_status, sandbox_headers}
use Rattle.radio_heads.specs.Answer.{content_type, denial_body, denial_text, line, sized_head, source_text, status_line, status_number}
use Rattle.radio_heads.specs.Laws.{sized_parts}
use Rattle.radio_heads.specs.Reading.{IsHead}
use Rattle.radio_heads.specs.Response.{ShowsResponse}
use Rattle.radio_heads.specs.WebAnswer.{page_head, shared_head, stream_head_text}
use Rattle.radio_heads.specs.WebLaws.{page_headers, shared_headers, stream_headers}
use Rattle.radio_heads.proofs.ReadBackLemmas.{Header, IsHeaderValue, IsSoundHeader, IsStatus, header_text, head_is_written, head_text, sound_from, status_200, status_400, status_401, status_403, status_404}
use Rattle.radio_heads.proofs.AnswerLemmas.{one_is_sound, one_line, sized_head_is, sized_is_clean, sized_is_few, sized_is_short, type_is_short, type_is_value, value_from}
use Rattle.radio_heads.proofs.WebLemmas.{page_head_is, page_is_few, page_is_short, page_is_sound, shared_head_is, shared_is_few, shared_is_short, shared_is_sound}
use Rattle.radio_heads.proofs.WebLemmas.{stream_is_few, stream_is_short, stream_is_sound, stream_text_is}

-- ---- the headers that are added

cache_lines_are : (forbids : Bool) → flat_map header_text (cache_header forbids) ≡ cache_lines forbids
cache_lines_are true = one_line (codes "Cache-Control") (codes "no-cache, no-store")
cache_lines_are false = refl

sandbox_lines_are : (sandboxed : Bool) → flat_map header_text (sandbox_headers sandboxed) ≡ sandbox_lines sandboxed
sandbox_lines_are true =
    flat_map-append header_text ((codes "Content-Security-Policy", codes "sandbox") ∷ []) ((codes "X-Content-Type-Options", codes "nosniff") ∷ [])
    ∙ ap (λ (xs : List ℕ). xs ++ flat_map header_text ((codes "X-Content-Type-Options", codes "nosniff") ∷ []))
    (one_line (codes "Content-Security-Policy") (codes "sandbox"))
    ∙ ap (λ (xs : List ℕ). sandbox_first ++ xs) (one_line (codes "X-Content-Type-Options") (codes "nosniff"))
  where
    sandbox_first : List ℕ
    sandbox_first = header_text (codes "Content-Security-Policy", codes "sandbox")
sandbox_lines_are false = refl

added_lines_are : (additions : Additions) → flat_map header_text (added_headers additions) ≡ added_lines additions
added_lines_are additions =
    flat_map-append header_text (cache_header additions.forbids_caching) (sandbox_headers additions.is_sandboxed)
    ∙ ap (λ (xs : List ℕ). xs ++ flat_map header_text (sandbox_headers additions.is_sandboxed)) (cache_lines_are additions.forbids_caching)
    ∙ ap (λ (xs : List ℕ). cache_lines additions.forbids_caching ++ xs) (sandbox_lines_are additions.is_sandboxed)

cache_is_sound : (forbids : Bool) → All IsSoundHeader (cache_header forbids)
unfolding is_token_byte trim_ows
cache_is_sound true = one_is_sound (codes "Cache-Control") (codes "no-cache, no-store") refl (value_from (codes "no-cache, no-store") refl refl).bytes
cache_is_sound false = All-nil IsSoundHeader

sandbox_is_sound : (sandboxed : Bool) → All IsSoundHeader (sandbox_headers sandboxed)
unfolding is_token_byte trim_ows
sandbox_is_sound true =
    All-append IsSoundHeader ((codes "Content-Security-Policy", codes "sandbox") ∷ []) ((codes "X-Content-Type-Options", codes "nosniff") ∷ [])
    (one_is_sound (codes "Content-Security-Policy") (codes "sandbox") refl (value_from (codes "sandbox") refl refl).bytes)
    (one_is_sound (codes "X-Content-Type-Options") (codes "nosniff") refl (value_from (codes "nosniff") refl refl).bytes)
sandbox_is_sound false = All-nil IsSoundHeader

cache_is_few : (forbids : Bool) → (length (cache_header forbids) ≤ 1) × (length (cache_lines forbids) ≤ 50)
cache_is_few true = (omega arith, omega arith)
cache_is_few false = (omega arith, omega arith)

sandbox_is_few : (sandboxed : Bool) → (length (sandbox_headers sandboxed) ≤ 2) × (length (sandbox_lines sandboxed) ≤ 90)
sandbox_is_few true = (omega arith, omega arith)
sandbox_is_few false = (omega arith, omega arith)

-- ---- where they stand

behind_is_longer : (lines text : List ℕ) → length (behind_first_line lines text) ≡ length lines + length text
behind_is_longer lines [] = omega arith
behind_is_longer lines (byte ∷ text) = by_byte (byte == 10) (behind_is_longer lines text) where
  by_byte : (b : Bool) → length (behind_first_line lines text) ≡ length lines + length text
      → length (if b then byte ∷ lines ++ text else byte ∷ behind_first_line lines text) ≡ length lines + length (byte ∷ text)
  by_byte true later = omega (arith, length-append lines text)
  by_byte false later = omega (arith, later)

-- the status line is the first line of an answer
abbrev IsFirstLine : List ℕ → Type 0
IsFirstLine first = (lines rest : List ℕ) → behind_first_line lines (first ++ rest) ≡ first ++ lines ++ rest

first_200 : IsFirstLine (status_line (codes "HTTP/1.0") 200)
first_200 = subst IsFirstLine (sym status_200.line_is) (λ lines rest. refl)

first_400 : IsFirstLine (status_line (codes "HTTP/1.0") 400)
first_400 = subst IsFirstLine (sym status_400.line_is) (λ lines rest. refl)

first_401 : IsFirstLine (status_line (codes "HTTP/1.0") 401)
first_401 = subst IsFirstLine (sym status_401.line_is) (λ lines rest. refl)

first_403 : IsFirstLine (status_line (codes "HTTP/1.0") 403)
first_403 = subst IsFirstLine (sym status_403.line_is) (λ lines rest. refl)

first_404 : IsFirstLine (status_line (codes "HTTP/1.0") 404)
first_404 = subst IsFirstLine (sym status_404.line_is) (λ lines rest. refl)

module _ (additions : Additions) where
  abbrev added : List Header
  added = added_headers additions

  module _ (n : ℕ) (digits phrase : List ℕ) (status : IsStatus n digits phrase) (first : IsFirstLine (status_line (codes "HTTP/1.0") n)) where
    -- they stand before the others
    in_front : (headers : List Header) (body : List ℕ) → with_additions additions (head_text n headers ++ body) ≡ head_text n (added ++ headers) ++ body
    in_front headers body =
        ap (with_additions additions) (apart (status_line (codes "HTTP/1.0") n) (flat_map header_text headers) (line []) body)
        ∙ first (added_lines additions) (flat_map header_text headers ++ line [] ++ body)
        ∙ together (status_line (codes "HTTP/1.0") n) (added_lines additions) (flat_map header_text headers) (line []) body
        ∙ ap (λ (xs : List ℕ). status_line (codes "HTTP/1.0") n ++ xs ++ line [] ++ body)
        (ap (λ (xs : List ℕ). xs ++ flat_map header_text headers) (sym (added_lines_are additions)) ∙ sym (flat_map-append header_text added headers))
      where
        apart : (s f l b : List ℕ) → s ++ f ++ l ++ b ≡ s ++ (f ++ l ++ b)
        apart s f l b = simp append_assoc

        together : (s a f l b : List ℕ) → s ++ a ++ (f ++ l ++ b) ≡ s ++ (a ++ f) ++ l ++ b
        together s a f l b = simp append_assoc

    -- a head that is these headers, and any body behind it
    added_is_read : (head body more : List ℕ) (headers : List Header) → head ≡ head_text n headers → All IsSoundHeader headers
        → length headers ≤ 60 → length head ≤ 8000
        → IsHead ShowsResponse (with_additions additions (head ++ body) ++ more) (parts_of_status n (added ++ headers)) (length (with_additions additions head))
    added_is_read head body more headers same sound few short =
        subst (λ (xs : List ℕ). IsHead ShowsResponse (xs ++ more) (parts_of_status n (added ++ headers)) (length (with_additions additions head))) (sym with_body)
        (subst (λ (xs : List ℕ). IsHead ShowsResponse xs (parts_of_status n (added ++ headers)) (length (with_additions additions head)))
        (sym (append_assoc (head_text n (added ++ headers)) body more))
        (subst (λ (size : ℕ). IsHead ShowsResponse (head_text n (added ++ headers) ++ (body ++ more)) (parts_of_status n (added ++ headers)) size)
        (ap length (sym alone))
        (head_is_written n digits phrase (added ++ headers) (body ++ more) status
        (All-append IsSoundHeader added headers
        (All-append IsSoundHeader (cache_header additions.forbids_caching) (sandbox_headers additions.is_sandboxed)
        (cache_is_sound additions.forbids_caching) (sandbox_is_sound additions.is_sandboxed)) sound)
        (omega (
          arith,
          length-append added headers,
          length-append (cache_header additions.forbids_caching) (sandbox_headers additions.is_sandboxed),
          (cache_is_few additions.forbids_caching).0,
          (sandbox_is_few additions.is_sandboxed).0,
        ))
        (omega (
          arith,
          ap length (sym alone),
          behind_is_longer (added_lines additions) head,
          length-append (cache_lines additions.forbids_caching) (sandbox_lines additions.is_sandboxed),
          (cache_is_few additions.forbids_caching).1,
          (sandbox_is_few additions.is_sandboxed).1,
        )))))
      where
        with_body : with_additions additions (head ++ body) ≡ head_text n (added ++ headers) ++ body
        with_body = ap (λ (xs : List ℕ). with_additions additions (xs ++ body)) same ∙ in_front headers body

        alone : with_additions additions head ≡ head_text n (added ++ headers)
        alone = ap (with_additions additions) (same ∙ sym (append-nil (head_text n headers))) ∙ in_front headers [] ∙ append-nil (head_text n (added ++ headers))

    sized_is_read_with : (type body more : List ℕ) → IsHeaderValue type → length type ≤ 30 → length body < 2 ^ 64
        → IsHead ShowsResponse (with_additions additions (sized_head n type (length body) ++ body) ++ more)
        (parts_of_status n (added ++ (sized_parts n type (length body)).headers)) (length (with_additions additions (sized_head n type (length body))))
    sized_is_read_with type body more clean few small =
        added_is_read (sized_head n type (length body)) body more (sized_parts n type (length body)).headers (sized_head_is n type (length body))
        (sound_from (sized_parts n type (length body)).headers (sized_is_clean n type (length body) clean small)) (sized_is_few n type (length body))
        (sized_is_short n digits phrase type (length body) status few small)

  denial_is_read_with : (status : Status) (rule more : List ℕ) → length (denial_body rule) < 2 ^ 64
      → IsHead ShowsResponse (with_additions additions (denial_text status rule) ++ more)
      (parts_of_status (status_number status) (added ++ (sized_parts (status_number status) (content_type Plain) (length (denial_body rule))).headers))
      (length (with_additions additions (sized_head (status_number status) (content_type Plain) (length (denial_body rule)))))
  denial_is_read_with BadRequest rule more small =
      sized_is_read_with 400 _ _ status_400 first_400 (content_type Plain) (denial_body rule) more (type_is_value Plain) (type_is_short Plain) small
  denial_is_read_with Unauthorized rule more small =
      sized_is_read_with 401 _ _ status_401 first_401 (content_type Plain) (denial_body rule) more (type_is_value Plain) (type_is_short Plain) small
  denial_is_read_with Forbidden rule more small =
      sized_is_read_with 403 _ _ status_403 first_403 (content_type Plain) (denial_body rule) more (type_is_value Plain) (type_is_short Plain) small
  denial_is_read_with NotFound rule more small =
      sized_is_read_with 404 _ _ status_404 first_404 (content_type Plain) (denial_body rule) more (type_is_value Plain) (type_is_short Plain) small

  pub added_are_read_back : AdditionsAreReadBack additions
  added_are_read_back = record {
    source = λ more.
        subst (λ (hs : List Header). IsHead ShowsResponse (with_additions additions source_text ++ more) (parts_of_status 200 hs) (length (with_additions additions source_text)))
        (append-nil added)
        (subst (λ (xs : List ℕ). IsHead ShowsResponse (with_additions additions xs ++ more) (parts_of_status 200 (added ++ [])) (length (with_additions additions source_text)))
        (append-nil source_text)
        (added_is_read 200 _ _ status_200 first_200 source_text [] more []
        (ap (λ (xs : List ℕ). xs ++ line []) (sym (append-nil (status_line (codes "HTTP/1.0") 200)))) (All-nil IsSoundHeader) (omega arith)
        (omega (arith, length-append (status_line (codes "HTTP/1.0") 200) (line []), ap length status_200.line_is))));
    denial = denial_is_read_with;
    command = λ kind body more small. sized_is_read_with 200 _ _ status_200 first_200 (content_type kind) body more (type_is_value kind) (type_is_short kind) small;
    stream = λ origin w more clean_origin short_origin clean short small.
        subst (λ (xs : List ℕ). IsHead ShowsResponse (with_additions additions xs ++ more) (parts_of_status 200 (added ++ stream_headers origin w))
        (length (with_additions additions (stream_head_text origin w)))) (append-nil (stream_head_text origin w))
        (added_is_read 200 _ _ status_200 first_200 (stream_head_text origin w) [] more (stream_headers origin w) (stream_text_is origin w)
        (stream_is_sound origin w clean_origin clean small) (stream_is_few origin w) (stream_is_short origin w short_origin short small));
    text = λ origin kind body more clean short small.
        added_is_read 200 _ _ status_200 first_200 (shared_head origin (content_type kind) (length body)) body more
        (shared_headers origin (content_type kind) (length body)) (shared_head_is origin (content_type kind) (length body))
        (shared_is_sound origin kind (length body) clean small) (shared_is_few origin (content_type kind) (length body))
        (shared_is_short origin kind (length body) short small);
    page = λ origin policy body more clean short allowed few small.
        added_is_read 200 _ _ status_200 first_200 (page_head origin policy (length body)) body more (page_headers origin policy (length body))
        (page_head_is origin policy (length body)) (page_is_sound origin policy (length body) clean allowed small)
        (page_is_few origin policy (length body)) (page_is_short origin policy (length body) short few small);
  }
