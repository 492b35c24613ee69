-- Each answer that is written is read back with its status and its headers.
use Rattle.std.proofs.Common.{◌≡◌, ℕ, ◌+◌, ◌<◌, ◌≤◌, ◌^◌, Bool, true, false, if◌then◌else◌, eqb, ltb, List, [], ◌∷◌, ◌++◌, length, Option, Some, None, codes}
use Rattle.std.proofs.Common.{decimal, refl, sym, ap, ◌∙◌, subst, arith, append_assoc, append-nil, length-append}
use Rattle.std.specs.Prelude.{All, IfSome}
use Rattle.std.specs.List.{flat_map, list_all}
use Rattle.std.proofs.lemmas.Bool.{and_parts, ltb-true, cond_both}
use Rattle.std.proofs.lemmas.Fmt.{length-decimal-le}
use Rattle.std.proofs.lemmas.List.Concat.{flat_map-append}
use Rattle.std.proofs.lemmas.List.Elements.{All-cons, All-nil, All-append}
use Rattle.std.proofs.lemmas.List.Sums.{AllPass-from_list_all}
use Rattle.httparse.specs.Grammar.{IsToken, is_token, is_token_byte, is_value_byte, trim_ows}
use Rattle.radio_policy.specs.declared.rule.Status.TheVariants.{BadRequest, Unauthorized, Forbidden, NotFound}
use Rattle.radio_heads.specs.declared.answer.TextKind.{TextKind}
use Rattle.radio_heads.specs.declared.answer.TextKind.TheVariants.{Plain, Json}
use Rattle.radio_heads.specs.declared.answer.AboutHeaders.{AboutHeaders}
use Rattle.radio_heads.specs.declared.answer.Welcome.{Welcome}
use Rattle.radio_heads.specs.Answer.{about_lines, line, header_line, shown_line, interval_line, challenge_line, status_line, content_type, listener_text, sized_head}
use Rattle.radio_heads.specs.Answer.{denial_body}
use Rattle.radio_heads.specs.FieldValue.{IsFieldText}
use Rattle.radio_heads.specs.Laws.{IsCleanAbout, IsCleanWelcome, IsShortAbout, about_headers, shown_header, interval_header, challenge_header, listener_headers, listener_parts, sized_parts}
use Rattle.radio_heads.specs.Laws.{IsReadBack, ListenerIsReadBack, ShortListenerIsReadBack, DenialIsReadBack, TextIsReadBack}
use Rattle.radio_heads.specs.Reading.{IsHead}
use Rattle.radio_heads.specs.Response.{ShowsResponse}
use Rattle.radio_heads.proofs.ReadBackLemmas.{Header, header_text, head_text, IsHeaderValue, IsCleanHeader, IsSoundHeader, sound_from, IsStatus, written_status}
use Rattle.radio_heads.proofs.ReadBackLemmas.{head_is_read, head_is_written, status_200, status_400, status_401, status_403, status_404}
use Rattle.radio_heads.proofs.ValueLemmas.{decimal_is_value}

-- ---- names and values of words

pub token_from : (name : List ℕ) → is_token name ≡ true → IsToken name
token_from name h =
    let both = and_parts (ltb 0 (length name)) (list_all is_token_byte name) h in
    (ltb-true 0 (length name) both.0, AllPass-from_list_all is_token_byte name both.1)

pub value_from : (value : List ℕ) → list_all is_value_byte value ≡ true → trim_ows value ≡ value → IsHeaderValue value
value_from value bytes trimmed = record { bytes = AllPass-from_list_all is_value_byte value bytes; trimmed = trimmed }

pub type_is_value : (kind : TextKind) → IsHeaderValue (content_type kind)
unfolding trim_ows
type_is_value Plain = value_from (content_type Plain) refl refl
type_is_value Json = value_from (content_type Json) refl refl

-- ---- clean headers

pub one_is_clean : (name value : List ℕ) → is_token name ≡ true → IsHeaderValue value → All IsCleanHeader ((name, value) ∷ [])
one_is_clean name value token clean =
    All-cons IsCleanHeader (name, value) [] (record { name = token_from name token; value = clean }) (All-nil IsCleanHeader)

pub one_is_sound : (name value : List ℕ) → is_token name ≡ true → IsFieldText value → All IsSoundHeader ((name, value) ∷ [])
one_is_sound name value token bytes =
    All-cons IsSoundHeader (name, value) [] (record { name = token_from name token; bytes = bytes }) (All-nil IsSoundHeader)

pub shown_is_sound : (name value : List ℕ) → is_token name ≡ true → IsFieldText value → All IsSoundHeader (shown_header name value)
shown_is_sound name [] token bytes = All-nil IsSoundHeader
shown_is_sound name (b ∷ value) token bytes = one_is_sound name (b ∷ value) token bytes

pub interval_is_clean : (interval : Option ℕ) → IfSome interval (λ n. n < 2 ^ 32) → All IsCleanHeader (interval_header interval)
unfolding is_token_byte
interval_is_clean None small = All-nil IsCleanHeader
interval_is_clean (Some n) small = one_is_clean (codes "icy-metaint") (decimal n) refl (decimal_is_value n (omega arith))

pub close_is_clean : All IsCleanHeader ((codes "Connection", codes "close") ∷ [])
unfolding is_token_byte trim_ows
close_is_clean = one_is_clean (codes "Connection") (codes "close") refl (value_from (codes "close") refl refl)

pub challenge_is_clean : (n : ℕ) → All IsCleanHeader (challenge_header n)
unfolding is_token_byte trim_ows
challenge_is_clean n = cond_both (eqb n 401) _ [] (All IsCleanHeader)
    (λ _. one_is_clean (codes "WWW-Authenticate") (codes "Basic realm=\"radio\"") refl (value_from (codes "Basic realm=\"radio\"") refl refl))
    (λ _. All-nil IsCleanHeader)

-- ---- headers as lines

-- the lines of one header
pub one_line : (name value : List ℕ) → flat_map header_text ((name, value) ∷ []) ≡ header_line name value
one_line name value = append-nil (header_line name value)

pub shown_lines : (name value : List ℕ) → flat_map header_text (shown_header name value) ≡ shown_line name value
shown_lines name [] = refl
shown_lines name (b ∷ value) = one_line name (b ∷ value)

pub interval_lines : (interval : Option ℕ) → flat_map header_text (interval_header interval) ≡ interval_line interval
interval_lines None = refl
interval_lines (Some n) = one_line (codes "icy-metaint") (decimal n)

pub challenge_lines : (n : ℕ) → flat_map header_text (challenge_header n) ≡ challenge_line n
challenge_lines n = by_test (eqb n 401)
  where
    by_test : (b : Bool) → flat_map header_text (if b then (codes "WWW-Authenticate", codes "Basic realm=\"radio\"") ∷ [] else [])
        ≡ (if b then header_line (codes "WWW-Authenticate") (codes "Basic realm=\"radio\"") else [])
    by_test true = one_line (codes "WWW-Authenticate") (codes "Basic realm=\"radio\"")
    by_test false = refl

-- the lines of four headers or groups of headers, between a first and a last line
pub four_lines : (f : Header → List ℕ) (s l : List ℕ) (a b c d : List Header) (p q r t : List ℕ)
    → flat_map f a ≡ p → flat_map f b ≡ q → flat_map f c ≡ r → flat_map f d ≡ t
    → s ++ p ++ q ++ r ++ t ++ l ≡ s ++ flat_map f (a ++ b ++ c ++ d) ++ l
four_lines f s l a b c d p q r t one two three four =
    regroup s p q r t l ∙ ap (λ (lines : List ℕ). s ++ lines ++ l) (sym joined)
  where
    regroup : (s p q r t l : List ℕ) → s ++ p ++ q ++ r ++ t ++ l ≡ s ++ (p ++ q ++ r ++ t) ++ l
    regroup s p q r t l = simp append_assoc

    joined : flat_map f (a ++ b ++ c ++ d) ≡ p ++ q ++ r ++ t
    joined = rw (flat_map-append f (a ++ b ++ c) d, flat_map-append f (a ++ b) c, flat_map-append f a b) (cc)

-- and of five
pub five_lines : (f : Header → List ℕ) (s l : List ℕ) (a b c d e : List Header) (p q r t u : List ℕ)
    → flat_map f a ≡ p → flat_map f b ≡ q → flat_map f c ≡ r → flat_map f d ≡ t → flat_map f e ≡ u
    → s ++ p ++ q ++ r ++ t ++ u ++ l ≡ s ++ flat_map f (a ++ b ++ c ++ d ++ e) ++ l
five_lines f s l a b c d e p q r t u one two three four five =
    regroup s p q r t u l ∙ ap (λ (lines : List ℕ). s ++ lines ++ l) (sym joined)
  where
    regroup : (s p q r t u l : List ℕ) → s ++ p ++ q ++ r ++ t ++ u ++ l ≡ s ++ (p ++ q ++ r ++ t ++ u) ++ l
    regroup s p q r t u l = simp append_assoc

    joined : flat_map f (a ++ b ++ c ++ d ++ e) ≡ p ++ q ++ r ++ t ++ u
    joined = rw (flat_map-append f (a ++ b ++ c ++ d) e, flat_map-append f (a ++ b ++ c) d, flat_map-append f (a ++ b) c, flat_map-append f a b) (cc)

-- the lines of six headers or groups of headers, between a first and a last line
pub six_lines : (f : Header → List ℕ) (s l : List ℕ) (a b c d e g : List Header) (p q r t u v : List ℕ)
    → flat_map f a ≡ p → flat_map f b ≡ q → flat_map f c ≡ r → flat_map f d ≡ t → flat_map f e ≡ u → flat_map f g ≡ v
    → s ++ p ++ q ++ r ++ t ++ u ++ v ++ l ≡ s ++ flat_map f (a ++ b ++ c ++ d ++ e ++ g) ++ l
six_lines f s l a b c d e g p q r t u v one two three four five six =
    regroup s p q r t u v l ∙ ap (λ (lines : List ℕ). s ++ lines ++ l) (sym joined)
  where
    regroup : (s p q r t u v l : List ℕ) → s ++ p ++ q ++ r ++ t ++ u ++ v ++ l ≡ s ++ (p ++ q ++ r ++ t ++ u ++ v) ++ l
    regroup s p q r t u v l = simp append_assoc

    joined : flat_map f (a ++ b ++ c ++ d ++ e ++ g) ≡ p ++ q ++ r ++ t ++ u ++ v
    joined =
        rw (
          flat_map-append f (a ++ b ++ c ++ d ++ e) g,
          flat_map-append f (a ++ b ++ c ++ d) e,
          flat_map-append f (a ++ b ++ c) d,
          flat_map-append f (a ++ b) c,
          flat_map-append f a b,
        ) (cc)

-- what is clean group by group is clean
pub four_clean : (a b c d : List Header) → All IsCleanHeader a → All IsCleanHeader b → All IsCleanHeader c → All IsCleanHeader d
    → All IsCleanHeader (a ++ b ++ c ++ d)
four_clean a b c d one two three four =
    All-append IsCleanHeader (a ++ b ++ c) d
    (All-append IsCleanHeader (a ++ b) c (All-append IsCleanHeader a b one two) three) four

pub four_sound : (a b c d : List Header) → All IsSoundHeader a → All IsSoundHeader b → All IsSoundHeader c → All IsSoundHeader d
    → All IsSoundHeader (a ++ b ++ c ++ d)
four_sound a b c d one two three four =
    All-append IsSoundHeader (a ++ b ++ c) d
    (All-append IsSoundHeader (a ++ b) c (All-append IsSoundHeader a b one two) three) four

pub five_sound : (a b c d e : List Header) → All IsSoundHeader a → All IsSoundHeader b → All IsSoundHeader c → All IsSoundHeader d → All IsSoundHeader e
    → All IsSoundHeader (a ++ b ++ c ++ d ++ e)
five_sound a b c d e one two three four five =
    All-append IsSoundHeader (a ++ b ++ c ++ d) e (four_sound a b c d one two three four) five

pub six_sound : (a b c d e g : List Header) → All IsSoundHeader a → All IsSoundHeader b → All IsSoundHeader c → All IsSoundHeader d → All IsSoundHeader e
    → All IsSoundHeader g → All IsSoundHeader (a ++ b ++ c ++ d ++ e ++ g)
six_sound a b c d e g one two three four five six =
    All-append IsSoundHeader (a ++ b ++ c ++ d ++ e) g (five_sound a b c d e one two three four five) six

-- ---- answers with a body

pub sized_head_is : (n : ℕ) (type : List ℕ) (size : ℕ) → sized_head n type size ≡ head_text n (sized_parts n type size).headers
sized_head_is n type size =
    four_lines header_text (status_line (codes "HTTP/1.0") n) (line [])
    ((codes "Content-Type", type) ∷ []) ((codes "Content-Length", decimal size) ∷ []) (challenge_header n) ((codes "Connection", codes "close") ∷ [])
    _ _ _ _
    (one_line (codes "Content-Type") type) (one_line (codes "Content-Length") (decimal size)) (challenge_lines n)
    (one_line (codes "Connection") (codes "close"))

pub sized_is_clean : (n : ℕ) (type : List ℕ) (size : ℕ) → IsHeaderValue type → size < 2 ^ 64
    → All IsCleanHeader (sized_parts n type size).headers
unfolding is_token_byte
sized_is_clean n type size clean small =
    four_clean ((codes "Content-Type", type) ∷ []) ((codes "Content-Length", decimal size) ∷ []) (challenge_header n)
    ((codes "Connection", codes "close") ∷ [])
    (one_is_clean (codes "Content-Type") type refl clean)
    (one_is_clean (codes "Content-Length") (decimal size) refl (decimal_is_value size small))
    (challenge_is_clean n)
    close_is_clean

pub challenge_is_short : (n : ℕ) → (length (challenge_header n) ≤ 1) × (length (challenge_line n) ≤ 50)
challenge_is_short n = by_test (eqb n 401)
  where
    by_test : (b : Bool) → (length {A = Header} (if b then (codes "WWW-Authenticate", codes "Basic realm=\"radio\"") ∷ [] else []) ≤ 1)
        × (length (if b then header_line (codes "WWW-Authenticate") (codes "Basic realm=\"radio\"") else []) ≤ 50)
    by_test true = (omega arith, omega arith)
    by_test false = (omega arith, omega arith)

pub sized_is_few : (n : ℕ) (type : List ℕ) (size : ℕ) → length (sized_parts n type size).headers ≤ 60
sized_is_few n type size =
    omega (arith, length-append (challenge_header n) ((codes "Connection", codes "close") ∷ []), (challenge_is_short n).0)

pub length-header_line : (name value : List ℕ) → length (header_line name value) ≡ length name + length value + 4
length-header_line name value =
    omega (arith, length-append (name ++ codes ": " ++ value) (codes "\r\n"), length-append (name ++ codes ": ") value, length-append name (codes ": "))

pub length-decimal : (n : ℕ) → n < 2 ^ 64 → length (decimal n) ≤ 20
length-decimal n small = length-decimal-le 20 n (omega arith) (omega arith) small

pub length-status : (digits phrase : List ℕ) → length (written_status phrase digits) ≡ length digits + length phrase + 12
length-status digits phrase =
    omega (
      arith,
      length-append (codes "HTTP/1.0" ++ codes " " ++ (digits ++ codes " " ++ phrase)) (codes "\r\n"),
      length-append (codes "HTTP/1.0" ++ codes " ") (digits ++ codes " " ++ phrase),
      length-append (digits ++ codes " ") phrase,
      length-append digits (codes " "),
    )

pub length-six : (a b c d e f : List ℕ)
    → length (a ++ b ++ c ++ d ++ e ++ f) ≡ length a + length b + length c + length d + length e + length f
length-six a b c d e f = simp length-append

pub sized_is_short : (n : ℕ) (digits phrase type : List ℕ) (size : ℕ) → IsStatus n digits phrase → length type ≤ 30 → size < 2 ^ 64
    → length (sized_head n type size) ≤ 8000
sized_is_short n digits phrase type size status type_short small =
    let whole = length-six (status_line (codes "HTTP/1.0") n) (header_line (codes "Content-Type") type)
    (header_line (codes "Content-Length") (decimal size)) (challenge_line n) (header_line (codes "Connection") (codes "close")) (line []) in
    let first : length (status_line (codes "HTTP/1.0") n) ≡ length digits + length phrase + 12
    = ap length status.line_is ∙ length-status digits phrase in
    let second = length-header_line (codes "Content-Type") type in
    let third = length-header_line (codes "Content-Length") (decimal size) in
    omega (arith, whole, first, second, third, (challenge_is_short n).1, length-decimal size small, status.phrase_short, status.three)

pub type_is_short : (kind : TextKind) → length (content_type kind) ≤ 30
type_is_short Plain = omega arith
type_is_short Json = omega arith

-- a head with a status that is known, and any body after it
pub sized_is_read : (n : ℕ) (digits phrase type body : List ℕ) → IsStatus n digits phrase → IsHeaderValue type → length type ≤ 30
    → IsReadBack n type body
sized_is_read n digits phrase type body status clean type_short more small =
    let size : ℕ = length body in
    let parts = sized_parts n type size in
    let same = sized_head_is n type size in
    let short : length (head_text n parts.headers) ≤ 8192
    = subst (λ (xs : List ℕ). length xs ≤ 8192) same (omega (arith, sized_is_short n digits phrase type size status type_short small)) in
    subst (λ (xs : List ℕ). IsHead ShowsResponse xs parts (length (sized_head n type size))) (sym (append_assoc (sized_head n type size) body more))
    (subst (λ (xs : List ℕ). IsHead ShowsResponse (xs ++ (body ++ more)) parts (length xs)) (sym same)
    (head_is_read n digits phrase parts.headers (body ++ more) status (sized_is_clean n type size clean small) (omega (arith, sized_is_few n type size)) short))

pub denial_is_read : DenialIsReadBack
denial_is_read BadRequest rule = sized_is_read 400 _ _ (content_type Plain) (denial_body rule) status_400 (type_is_value Plain) (type_is_short Plain)
denial_is_read Unauthorized rule = sized_is_read 401 _ _ (content_type Plain) (denial_body rule) status_401 (type_is_value Plain) (type_is_short Plain)
denial_is_read Forbidden rule = sized_is_read 403 _ _ (content_type Plain) (denial_body rule) status_403 (type_is_value Plain) (type_is_short Plain)
denial_is_read NotFound rule = sized_is_read 404 _ _ (content_type Plain) (denial_body rule) status_404 (type_is_value Plain) (type_is_short Plain)

pub text_is_read : TextIsReadBack
text_is_read kind body = sized_is_read 200 _ _ (content_type kind) body status_200 (type_is_value kind) (type_is_short kind)

-- ---- what a stream says of itself beyond its name and genre

about_lines_are_group : (f : Header → List ℕ) (a b c : List Header) (p q r : List ℕ) → flat_map f a ≡ p → flat_map f b ≡ q → flat_map f c ≡ r
    → flat_map f (a ++ b ++ c) ≡ p ++ q ++ r
about_lines_are_group f a b c p q r one two three = rw (flat_map-append f (a ++ b) c, flat_map-append f a b) (cc)

pub about_lines_are : (about : AboutHeaders) → flat_map header_text (about_headers about) ≡ about_lines about
about_lines_are about =
    about_lines_are_group header_text (shown_header (codes "icy-description") about.description) (shown_header (codes "icy-url") about.url)
    (shown_header (codes "icy-br") about.bitrate) _ _ _
    (shown_lines (codes "icy-description") about.description) (shown_lines (codes "icy-url") about.url) (shown_lines (codes "icy-br") about.bitrate)

pub about_is_sound : (about : AboutHeaders) → IsCleanAbout about → All IsSoundHeader (about_headers about)
unfolding is_token_byte
about_is_sound about clean =
    All-append IsSoundHeader (shown_header (codes "icy-description") about.description ++ shown_header (codes "icy-url") about.url)
    (shown_header (codes "icy-br") about.bitrate)
    (All-append IsSoundHeader (shown_header (codes "icy-description") about.description) (shown_header (codes "icy-url") about.url)
    (shown_is_sound (codes "icy-description") about.description refl clean.description)
    (shown_is_sound (codes "icy-url") about.url refl clean.url))
    (shown_is_sound (codes "icy-br") about.bitrate refl clean.bitrate)

-- ---- the answer to a listener

pub listener_text_is : (w : Welcome) → listener_text w ≡ head_text 200 (listener_headers w)
listener_text_is w =
    six_lines header_text (status_line (codes "HTTP/1.0") 200) (line [])
    ((codes "Content-Type", w.content_type) ∷ []) (shown_header (codes "icy-name") w.name) (shown_header (codes "icy-genre") w.genre)
    (about_headers w.about) (interval_header w.interval) ((codes "Connection", codes "close") ∷ [])
    _ _ _ _ _ _
    (one_line (codes "Content-Type") w.content_type) (shown_lines (codes "icy-name") w.name) (shown_lines (codes "icy-genre") w.genre)
    (about_lines_are w.about) (interval_lines w.interval) (one_line (codes "Connection") (codes "close"))

pub shown_is_few : (name value : List ℕ) → length (shown_header name value) ≤ 1
shown_is_few name [] = omega arith
shown_is_few name (b ∷ value) = omega arith

pub about_is_few : (about : AboutHeaders) → length (about_headers about) ≤ 3
about_is_few about =
    omega (
      arith,
      length-append (shown_header (codes "icy-description") about.description ++ shown_header (codes "icy-url") about.url) (shown_header (codes "icy-br") about.bitrate),
      length-append (shown_header (codes "icy-description") about.description) (shown_header (codes "icy-url") about.url),
      shown_is_few (codes "icy-description") about.description,
      shown_is_few (codes "icy-url") about.url,
      shown_is_few (codes "icy-br") about.bitrate,
    )

pub interval_is_few : (interval : Option ℕ) → length (interval_header interval) ≤ 1
interval_is_few None = omega arith
interval_is_few (Some n) = omega arith

pub length-groups-of-six : (a b c d e f : List Header) → length (a ++ b ++ c ++ d ++ e ++ f) ≡ length a + length b + length c + length d + length e + length f
length-groups-of-six a b c d e f = simp length-append

pub listener_is_sound : (w : Welcome) → IsCleanWelcome w → IfSome w.interval (λ n. n < 2 ^ 32) → All IsSoundHeader (listener_headers w)
unfolding is_token_byte
listener_is_sound w clean small =
    let close = (codes "Connection", codes "close") ∷ [] in
    All-append IsSoundHeader
    ((codes "Content-Type", w.content_type) ∷ [] ++ shown_header (codes "icy-name") w.name ++ shown_header
    (codes "icy-genre") w.genre ++ about_headers w.about ++ interval_header w.interval)
    close
    (five_sound ((codes "Content-Type", w.content_type) ∷ []) (shown_header (codes "icy-name") w.name)
    (shown_header (codes "icy-genre") w.genre) (about_headers w.about) (interval_header w.interval)
    (one_is_sound (codes "Content-Type") w.content_type refl clean.content_type)
    (shown_is_sound (codes "icy-name") w.name refl clean.name)
    (shown_is_sound (codes "icy-genre") w.genre refl clean.genre)
    (about_is_sound w.about clean.about)
    (sound_from (interval_header w.interval) (interval_is_clean w.interval small)))
    (sound_from close close_is_clean)

pub listener_is_read : ListenerIsReadBack
listener_is_read w more clean small short =
    let same = listener_text_is w in
    let few = length-groups-of-six ((codes "Content-Type", w.content_type) ∷ []) (shown_header (codes "icy-name") w.name)
    (shown_header (codes "icy-genre") w.genre) (about_headers w.about) (interval_header w.interval) ((codes "Connection", codes "close") ∷ []) in
    subst (λ (xs : List ℕ). IsHead ShowsResponse (xs ++ more) (listener_parts w) (length xs)) (sym same)
    (head_is_written 200 _ _ (listener_headers w) more status_200 (listener_is_sound w clean small)
    (omega (arith, few, shown_is_few (codes "icy-name") w.name, shown_is_few (codes "icy-genre") w.genre, about_is_few w.about, interval_is_few w.interval))
    (subst (λ (xs : List ℕ). length xs ≤ 8192) same short))

-- ---- values of at most 255 bytes

pub shown_is_short : (name value : List ℕ) → length (shown_line name value) ≤ length name + length value + 4
shown_is_short name [] = omega arith
shown_is_short name (b ∷ value) = omega (arith, length-header_line name (b ∷ value))

pub about_is_short : (about : AboutHeaders) → IsShortAbout about → length (about_lines about) ≤ 900
about_is_short about short =
    omega (
      arith,
      length-append (shown_line (codes "icy-description") about.description ++ shown_line (codes "icy-url") about.url) (shown_line (codes "icy-br") about.bitrate),
      length-append (shown_line (codes "icy-description") about.description) (shown_line (codes "icy-url") about.url),
      shown_is_short (codes "icy-description") about.description,
      shown_is_short (codes "icy-url") about.url,
      shown_is_short (codes "icy-br") about.bitrate,
      short.description,
      short.url,
      short.bitrate,
    )

pub interval_is_short : (interval : Option ℕ) → IfSome interval (λ n. n < 2 ^ 32) → length (interval_line interval) ≤ 40
interval_is_short None small = omega arith
interval_is_short (Some n) small =
    let below : n < 2 ^ 64 = omega arith in
    omega (arith, length-header_line (codes "icy-metaint") (decimal n), length-decimal n below)

pub length-seven : (a b c d e f g : List ℕ)
    → length (a ++ b ++ c ++ d ++ e ++ f ++ g) ≡ length a + length b + length c + length d + length e + length f + length g
length-seven a b c d e f g = simp length-append

length-eight : (a b c d e f g h : List ℕ)
    → length (a ++ b ++ c ++ d ++ e ++ f ++ g ++ h)
    ≡ length a + length b + length c + length d + length e + length f + length g + length h
length-eight a b c d e f g h = simp length-append

pub short_listener_is_read : ShortListenerIsReadBack
short_listener_is_read w more clean small short =
    let whole = length-eight (status_line (codes "HTTP/1.0") 200) (header_line (codes "Content-Type") w.content_type)
    (shown_line (codes "icy-name") w.name) (shown_line (codes "icy-genre") w.genre) (about_lines w.about) (interval_line w.interval)
    (header_line (codes "Connection") (codes "close")) (line []) in
    let first : length (status_line (codes "HTTP/1.0") 200) ≡ 17 = ap length status_200.line_is in
    let second = length-header_line (codes "Content-Type") w.content_type in
    let third = shown_is_short (codes "icy-name") w.name in
    let fourth = shown_is_short (codes "icy-genre") w.genre in
    let fifth = interval_is_short w.interval small in
    let sizes : (length w.content_type ≤ 255) × (length w.name ≤ 255) × (length w.genre ≤ 255)
    = (short.content_type, short.name, short.genre) in
    listener_is_read w more clean small (omega (arith, whole, first, second, third, fourth, about_is_short w.about short.about, fifth, sizes))
