-- Answers that the pages of web sites read: without an origin they are the others', and each is read back.
use Rattle.std.proofs.Common.{◌≡◌, ℕ, ◌+◌, ◌<◌, ◌≤◌, ◌^◌, List, [], ◌∷◌, ◌++◌, length, Option, Some, None, codes, decimal, refl, sym, ap, ◌∙◌, subst, arith}
use Rattle.std.proofs.Common.{append_assoc, append-nil, length-append}
use Rattle.std.specs.Prelude.{All, IfSome}
use Rattle.std.specs.List.{flat_map}
use Rattle.std.proofs.lemmas.List.Concat.{flat_map-append}
use Rattle.std.proofs.lemmas.List.Elements.{All-nil, All-append}
use Rattle.httparse.specs.Grammar.{is_token_byte, trim_ows}
use Rattle.radio_heads.specs.declared.answer.TextKind.{TextKind}
use Rattle.radio_heads.specs.declared.answer.Welcome.{Welcome}
use Rattle.radio_heads.specs.Answer.{about_lines, line, header_line, shown_line, interval_line, status_line, content_type, listener_text}
use Rattle.radio_heads.specs.FieldValue.{IsFieldText}
use Rattle.radio_heads.specs.Laws.{IsCleanWelcome, IsShortWelcome, about_headers, shown_header, interval_header}
use Rattle.radio_heads.specs.Reading.{IsHead}
use Rattle.radio_heads.specs.Response.{ShowsResponse}
use Rattle.radio_heads.specs.WebAnswer.{IsCleanOrigin, html, origin_line, page_head, page_text, shared_head, shared_text, stream_head_text, stream_start}
use Rattle.radio_heads.specs.WebLaws.{IsShortOrigin, origin_header, page_headers, parts_with, shared_headers, stream_headers}
use Rattle.radio_heads.proofs.ReadBackLemmas.{Header, IsHeaderValue, IsSoundHeader, header_text, head_text, head_is_written, sound_from, status_200}
use Rattle.radio_heads.proofs.ValueLemmas.{decimal_is_value}
use Rattle.radio_heads.proofs.AnswerLemmas.{about_is_few, about_is_short, about_is_sound, about_lines_are, close_is_clean, five_lines, five_sound, six_sound, four_lines, four_sound, interval_is_clean, interval_is_few, interval_is_short}
use Rattle.radio_heads.proofs.AnswerLemmas.{interval_lines, length-decimal, length-header_line, length-six, length-seven, one_is_sound, one_line}
use Rattle.radio_heads.proofs.AnswerLemmas.{shown_is_few, shown_is_short, shown_is_sound, shown_lines, type_is_short, type_is_value, value_from}

pub stream_unsaid : (w : Welcome) → stream_head_text None w ≡ listener_text w
stream_unsaid w = ap (λ (start : List ℕ). start ++ header_line (codes "Connection") (codes "close") ++ line []) (append-nil (stream_start w))

-- ---- whose pages may read it

origin_lines : (origin : Option (List ℕ)) → flat_map header_text (origin_header origin) ≡ origin_line origin
origin_lines None = refl
origin_lines (Some origin) = one_line (codes "Access-Control-Allow-Origin") origin

origin_is_sound : (origin : Option (List ℕ)) → IsCleanOrigin origin → All IsSoundHeader (origin_header origin)
unfolding is_token_byte
origin_is_sound None clean = All-nil IsSoundHeader
origin_is_sound (Some origin) clean = one_is_sound (codes "Access-Control-Allow-Origin") origin refl clean

origin_is_few : (origin : Option (List ℕ)) → length (origin_header origin) ≤ 1
origin_is_few None = omega arith
origin_is_few (Some origin) = omega arith

origin_is_short : (origin : Option (List ℕ)) → IsShortOrigin origin → length (origin_line origin) ≤ 300
origin_is_short None short = omega arith
origin_is_short (Some origin) short = omega (arith, length-header_line (codes "Access-Control-Allow-Origin") origin)

abbrev close : List Header
close = (codes "Connection", codes "close") ∷ []

-- what is sound group by group is sound
seven_sound : (a b c d e g h : List Header) → All IsSoundHeader a → All IsSoundHeader b → All IsSoundHeader c → All IsSoundHeader d → All IsSoundHeader e
    → All IsSoundHeader g → All IsSoundHeader h → All IsSoundHeader (a ++ b ++ c ++ d ++ e ++ g ++ h)
seven_sound a b c d e g h one two three four five six seven =
    All-append IsSoundHeader (a ++ b ++ c ++ d ++ e ++ g) h (six_sound a b c d e g one two three four five six) seven

-- ---- a stream

-- the lines of seven headers or groups of headers, between a first and a last line
seven_lines : (f : Header → List ℕ) (s l : List ℕ) (a b c d e g h : List Header) (p q r t u v w : List ℕ)
    → flat_map f a ≡ p → flat_map f b ≡ q → flat_map f c ≡ r → flat_map f d ≡ t → flat_map f e ≡ u → flat_map f g ≡ v → flat_map f h ≡ w
    → s ++ p ++ q ++ r ++ t ++ u ++ v ++ w ++ l ≡ s ++ flat_map f (a ++ b ++ c ++ d ++ e ++ g ++ h) ++ l
seven_lines f s l a b c d e g h p q r t u v w one two three four five six seven =
    regroup s p q r t u v w l ∙ ap (λ (lines : List ℕ). s ++ lines ++ l) (sym joined)
  where
    regroup : (s p q r t u v w l : List ℕ) → s ++ p ++ q ++ r ++ t ++ u ++ v ++ w ++ l ≡ s ++ (p ++ q ++ r ++ t ++ u ++ v ++ w) ++ l
    regroup s p q r t u v w l = simp append_assoc

    joined : flat_map f (a ++ b ++ c ++ d ++ e ++ g ++ h) ≡ p ++ q ++ r ++ t ++ u ++ v ++ w
    joined =
        rw (
          flat_map-append f (a ++ b ++ c ++ d ++ e ++ g) h,
          flat_map-append f (a ++ b ++ c ++ d ++ e) g,
          flat_map-append f (a ++ b ++ c ++ d) e,
          flat_map-append f (a ++ b ++ c) d,
          flat_map-append f (a ++ b) c,
          flat_map-append f a b,
        ) (cc)

pub stream_text_is : (origin : Option (List ℕ)) (w : Welcome) → stream_head_text origin w ≡ head_text 200 (stream_headers origin w)
stream_text_is origin w =
    seven_lines header_text (status_line (codes "HTTP/1.0") 200) (line [])
    ((codes "Content-Type", w.content_type) ∷ []) (shown_header (codes "icy-name") w.name) (shown_header (codes "icy-genre") w.genre)
    (about_headers w.about) (interval_header w.interval) (origin_header origin) close
    _ _ _ _ _ _ _
    (one_line (codes "Content-Type") w.content_type) (shown_lines (codes "icy-name") w.name) (shown_lines (codes "icy-genre") w.genre)
    (about_lines_are w.about) (interval_lines w.interval) (origin_lines origin) (one_line (codes "Connection") (codes "close"))

pub stream_is_sound : (origin : Option (List ℕ)) (w : Welcome) → IsCleanOrigin origin → IsCleanWelcome w → IfSome w.interval (λ n. n < 2 ^ 32)
    → All IsSoundHeader (stream_headers origin w)
unfolding is_token_byte
stream_is_sound origin w clean_origin clean small =
    seven_sound ((codes "Content-Type", w.content_type) ∷ []) (shown_header (codes "icy-name") w.name)
    (shown_header (codes "icy-genre") w.genre) (about_headers w.about) (interval_header w.interval) (origin_header origin) close
    (one_is_sound (codes "Content-Type") w.content_type refl clean.content_type)
    (shown_is_sound (codes "icy-name") w.name refl clean.name)
    (shown_is_sound (codes "icy-genre") w.genre refl clean.genre)
    (about_is_sound w.about clean.about)
    (sound_from (interval_header w.interval) (interval_is_clean w.interval small))
    (origin_is_sound origin clean_origin)
    (sound_from close close_is_clean)

length-groups : (a b c d e g h : List Header)
    → length (a ++ b ++ c ++ d ++ e ++ g ++ h) ≡ length a + length b + length c + length d + length e + length g + length h
length-groups a b c d e g h = simp length-append

length-nine : (a b c d e f g h i : List ℕ)
    → length (a ++ b ++ c ++ d ++ e ++ f ++ g ++ h ++ i)
    ≡ length a + length b + length c + length d + length e + length f + length g + length h + length i
length-nine a b c d e f g h i = simp length-append

first_is_short : length (status_line (codes "HTTP/1.0") 200) ≡ 17
first_is_short = ap length status_200.line_is

pub stream_is_short : (origin : Option (List ℕ)) (w : Welcome) → IsShortOrigin origin → IsShortWelcome w → IfSome w.interval (λ n. n < 2 ^ 32)
    → length (stream_head_text origin w) ≤ 8000
stream_is_short origin w short_origin short small =
    let whole = length-nine (status_line (codes "HTTP/1.0") 200) (header_line (codes "Content-Type") w.content_type)
    (shown_line (codes "icy-name") w.name) (shown_line (codes "icy-genre") w.genre) (about_lines w.about) (interval_line w.interval)
    (origin_line origin) (header_line (codes "Connection") (codes "close")) (line []) in
    let second = length-header_line (codes "Content-Type") w.content_type in
    let third = shown_is_short (codes "icy-name") w.name in
    let fourth = shown_is_short (codes "icy-genre") w.genre in
    let fifth = interval_is_short w.interval small in
    let sixth = origin_is_short origin short_origin in
    let sizes : (length w.content_type ≤ 255) × (length w.name ≤ 255) × (length w.genre ≤ 255)
    = (short.content_type, short.name, short.genre) in
    omega (arith, whole, first_is_short, second, third, fourth, about_is_short w.about short.about, fifth, sixth, sizes)

pub stream_is_few : (origin : Option (List ℕ)) (w : Welcome) → length (stream_headers origin w) ≤ 60
stream_is_few origin w =
    let few = length-groups ((codes "Content-Type", w.content_type) ∷ []) (shown_header (codes "icy-name") w.name)
    (shown_header (codes "icy-genre") w.genre) (about_headers w.about) (interval_header w.interval) (origin_header origin) close in
    omega (
      arith,
      few,
      shown_is_few (codes "icy-name") w.name,
      shown_is_few (codes "icy-genre") w.genre,
      about_is_few w.about,
      interval_is_few w.interval,
      origin_is_few origin,
    )

pub stream_is_read : (origin : Option (List ℕ)) (w : Welcome) (more : List ℕ)
    → IsCleanOrigin origin → IsShortOrigin origin → IsCleanWelcome w → IsShortWelcome w → IfSome w.interval (λ n. n < 2 ^ 32)
    → IsHead ShowsResponse (stream_head_text origin w ++ more) (parts_with (stream_headers origin w)) (length (stream_head_text origin w))
stream_is_read origin w more clean_origin short_origin clean short small =
    let same = stream_text_is origin w in
    subst (λ (xs : List ℕ). IsHead ShowsResponse (xs ++ more) (parts_with (stream_headers origin w)) (length xs)) (sym same)
    (head_is_written 200 _ _ (stream_headers origin w) more status_200 (stream_is_sound origin w clean_origin clean small)
    (omega (arith, stream_is_few origin w))
    (subst (λ (xs : List ℕ). length xs ≤ 8192) same (omega (arith, stream_is_short origin w short_origin short small))))

-- ---- answers with a body

-- a head that is these headers, and any body after it
head_and_body : (head body more : List ℕ) (headers : List Header) → head ≡ head_text 200 headers → All IsSoundHeader headers
    → length headers ≤ 64 → length head ≤ 8192
    → IsHead ShowsResponse ((head ++ body) ++ more) (parts_with headers) (length head)
head_and_body head body more headers same sound few short =
    subst (λ (xs : List ℕ). IsHead ShowsResponse xs (parts_with headers) (length head)) (sym (append_assoc head body more))
    (subst (λ (xs : List ℕ). IsHead ShowsResponse (xs ++ (body ++ more)) (parts_with headers) (length xs)) (sym same)
    (head_is_written 200 _ _ headers (body ++ more) status_200 sound few (subst (λ (xs : List ℕ). length xs ≤ 8192) same short)))

size_is_sound : (size : ℕ) → size < 2 ^ 64 → All IsSoundHeader ((codes "Content-Length", decimal size) ∷ [])
unfolding is_token_byte
size_is_sound size small = one_is_sound (codes "Content-Length") (decimal size) refl (decimal_is_value size small).bytes

pub shared_head_is : (origin : Option (List ℕ)) (type : List ℕ) (size : ℕ) → shared_head origin type size ≡ head_text 200 (shared_headers origin type size)
shared_head_is origin type size =
    four_lines header_text (status_line (codes "HTTP/1.0") 200) (line [])
    ((codes "Content-Type", type) ∷ []) ((codes "Content-Length", decimal size) ∷ []) (origin_header origin) close
    _ _ _ _
    (one_line (codes "Content-Type") type) (one_line (codes "Content-Length") (decimal size)) (origin_lines origin)
    (one_line (codes "Connection") (codes "close"))

pub shared_is_sound : (origin : Option (List ℕ)) (kind : TextKind) (size : ℕ) → IsCleanOrigin origin → size < 2 ^ 64
    → All IsSoundHeader (shared_headers origin (content_type kind) size)
unfolding is_token_byte
shared_is_sound origin kind size clean small =
    four_sound ((codes "Content-Type", content_type kind) ∷ []) ((codes "Content-Length", decimal size) ∷ []) (origin_header origin) close
    (one_is_sound (codes "Content-Type") (content_type kind) refl (type_is_value kind).bytes)
    (size_is_sound size small) (origin_is_sound origin clean) (sound_from close close_is_clean)

pub shared_is_short : (origin : Option (List ℕ)) (kind : TextKind) (size : ℕ) → IsShortOrigin origin → size < 2 ^ 64
    → length (shared_head origin (content_type kind) size) ≤ 8000
shared_is_short origin kind size short small =
    let whole = length-six (status_line (codes "HTTP/1.0") 200) (header_line (codes "Content-Type") (content_type kind))
    (header_line (codes "Content-Length") (decimal size)) (origin_line origin) (header_line (codes "Connection") (codes "close")) (line []) in
    let second = length-header_line (codes "Content-Type") (content_type kind) in
    let third = length-header_line (codes "Content-Length") (decimal size) in
    omega (arith, whole, first_is_short, second, third, type_is_short kind, length-decimal size small, origin_is_short origin short)

pub shared_is_few : (origin : Option (List ℕ)) (type : List ℕ) (size : ℕ) → length (shared_headers origin type size) ≤ 60
shared_is_few origin type size = omega (arith, length-append (origin_header origin) close, origin_is_few origin)

pub text_is_read : (origin : Option (List ℕ)) (kind : TextKind) (body more : List ℕ)
    → IsCleanOrigin origin → IsShortOrigin origin → length body < 2 ^ 64
    → IsHead ShowsResponse (shared_text origin (content_type kind) body ++ more)
    (parts_with (shared_headers origin (content_type kind) (length body)))
    (length (shared_head origin (content_type kind) (length body)))
text_is_read origin kind body more clean short small =
    let size : ℕ = length body in
    head_and_body (shared_head origin (content_type kind) size) body more (shared_headers origin (content_type kind) size)
    (shared_head_is origin (content_type kind) size)
    (shared_is_sound origin kind size clean small)
    (omega (arith, shared_is_few origin (content_type kind) size))
    (omega (arith, shared_is_short origin kind size short small))

pub page_head_is : (origin : Option (List ℕ)) (policy : List ℕ) (size : ℕ) → page_head origin policy size ≡ head_text 200 (page_headers origin policy size)
page_head_is origin policy size =
    five_lines header_text (status_line (codes "HTTP/1.0") 200) (line [])
    ((codes "Content-Type", html) ∷ []) ((codes "Content-Length", decimal size) ∷ []) ((codes "Content-Security-Policy", policy) ∷ [])
    (origin_header origin) close
    _ _ _ _ _
    (one_line (codes "Content-Type") html) (one_line (codes "Content-Length") (decimal size))
    (one_line (codes "Content-Security-Policy") policy) (origin_lines origin) (one_line (codes "Connection") (codes "close"))

html_is_value : IsHeaderValue html
unfolding trim_ows
html_is_value = value_from html refl refl

pub page_is_sound : (origin : Option (List ℕ)) (policy : List ℕ) (size : ℕ) → IsCleanOrigin origin → IsFieldText policy → size < 2 ^ 64
    → All IsSoundHeader (page_headers origin policy size)
unfolding is_token_byte
page_is_sound origin policy size clean allowed small =
    five_sound ((codes "Content-Type", html) ∷ []) ((codes "Content-Length", decimal size) ∷ []) ((codes "Content-Security-Policy", policy) ∷ [])
    (origin_header origin) close
    (one_is_sound (codes "Content-Type") html refl html_is_value.bytes)
    (size_is_sound size small)
    (one_is_sound (codes "Content-Security-Policy") policy refl allowed)
    (origin_is_sound origin clean)
    (sound_from close close_is_clean)

pub page_is_short : (origin : Option (List ℕ)) (policy : List ℕ) (size : ℕ) → IsShortOrigin origin → length policy ≤ 4096 → size < 2 ^ 64
    → length (page_head origin policy size) ≤ 8000
page_is_short origin policy size short few small =
    let whole = length-seven (status_line (codes "HTTP/1.0") 200) (header_line (codes "Content-Type") html)
    (header_line (codes "Content-Length") (decimal size)) (header_line (codes "Content-Security-Policy") policy) (origin_line origin)
    (header_line (codes "Connection") (codes "close")) (line []) in
    let third = length-header_line (codes "Content-Length") (decimal size) in
    let fourth = length-header_line (codes "Content-Security-Policy") policy in
    omega (arith, whole, first_is_short, third, fourth, few, length-decimal size small, origin_is_short origin short)

pub page_is_few : (origin : Option (List ℕ)) (policy : List ℕ) (size : ℕ) → length (page_headers origin policy size) ≤ 60
page_is_few origin policy size = omega (arith, length-append (origin_header origin) close, origin_is_few origin)

pub page_is_read : (origin : Option (List ℕ)) (policy body more : List ℕ)
    → IsCleanOrigin origin → IsShortOrigin origin → IsFieldText policy → length policy ≤ 4096 → length body < 2 ^ 64
    → IsHead ShowsResponse (page_text origin policy body ++ more)
    (parts_with (page_headers origin policy (length body)))
    (length (page_head origin policy (length body)))
page_is_read origin policy body more clean short allowed few small =
    let size : ℕ = length body in
    head_and_body (page_head origin policy size) body more (page_headers origin policy size)
    (page_head_is origin policy size)
    (page_is_sound origin policy size clean allowed small)
    (omega (arith, page_is_few origin policy size))
    (omega (arith, page_is_short origin policy size short few small))
