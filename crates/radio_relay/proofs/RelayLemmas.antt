-- What this server sends to a listener, pulled in by another.
use Rattle.std.proofs.Common.{◌≡◌, ℕ, zero, suc, ◌+◌, ◌%◌, ◌<◌, ◌≤◌, ◌^◌, Bool, true, false, not, ◌&&◌, leb, if◌then◌else◌, List}
use Rattle.std.proofs.Common.{[], ◌∷◌, ◌++◌, length, map, reverse, ap, sym, ◌∙◌, refl, subst, arith, Option, None, Some, Ok, Err}
use Rattle.radio_relay.proofs.Words.{codes, decimal, is_some, IfSome, lt-ltb, le-leb, leb-true, and_from, and_parts, cond-false, not-true, reverse-reverse, list_all, Whole, ReadingsAgree, ShortListenerIsReadBack}
use Rattle.radio_relay.proofs.Words.{about_headers, read_back, shown_header, interval_header, listener_parts, ShowsResponse, bare, block_texts, texts_in, title_of, HasNoUrlInside, new_unweaving, atoms_of_piece, BadHead}
use Rattle.radio_relay.proofs.Words.{header_interval, interval_in, interval_of, max_interval, Pulled, answer_pulled, sound_of_parts, titles_in, titles_of_texts, AreRelayable, RelaysLoseNothing}
use Rattle.std.proofs.lemmas.Bool.Decides.{nat_tests}
use Rattle.std.proofs.lemmas.Fmt.{decimal_is_IsNumeral, decimal_by_steps}
use Rattle.std.proofs.lemmas.List.Elements.{All-cons, All-nil, All-head, All-push, All-weaker}
use Rattle.std.proofs.Math.Seq.{drop-append_seam}
use Rattle.std.specs.Char.{is_digit, is_ascii_digit}
use Rattle.std.specs.Str.Parse.{AllDigits, digits_value}
use Rattle.httparse.specs.Grammar.{AllPass, is_ows, skip_ows, trim_ows}
use Rattle.httparse.proofs.TrimLemmas.{AllPass-reverse}
use Rattle.radio_heads.specs.declared.answer.AboutHeaders.{AboutHeaders}
use Rattle.radio_heads.specs.declared.answer.Welcome.{Welcome}
use Rattle.radio_heads.specs.Answer.{listener_text}
use Rattle.radio_heads.specs.Headers.{value_of}
use Rattle.radio_icy.specs.Bare.{sound_in as sound_heard}
use Rattle.radio_icy.specs.Block.{title_text}
use Rattle.radio_icy.specs.Stream.{IsWoven, sound_of_calls, interval_count, titles_sent}
use Rattle.radio_icy.specs.Weaving.{Call}
use Rattle.radio_texts.specs.Numbers.{number_of}
use Rattle.radio_relay.proofs.BareLemmas.{woven_is_bare}
use Rattle.radio_relay.proofs.CutLemmas.{readings-alike}

-- ---- the interval that the head names

-- digits are no white space
abbrev IsDigit : ℕ → Type 0
IsDigit b = is_ascii_digit b ≡ true

abbrev is_no_ows : ℕ → Bool
is_no_ows b = not (is_ows b)

last_digit : (n : ℕ) → n < 10 → IsDigit (48 + n)
last_digit n lt = and_from _ _ (le-leb 48 (48 + n) (omega arith)) (le-leb (48 + n) 57 (omega arith))

decimal_digits : (n : ℕ) → n < 2 ^ 64 → AllPass is_ascii_digit (decimal n)
decimal_digits n lt = decimal_by_steps (λ (m : ℕ) (ds : List ℕ). AllPass is_ascii_digit ds)
    (λ m small. All-cons IsDigit (48 + m) [] (last_digit m small) (All-nil IsDigit))
    (λ m ds ten all. All-push IsDigit ds (48 + m % 10) all (last_digit (m % 10) (omega arith)))
    n lt

digit_no_ows : (b : ℕ) → IsDigit b → is_no_ows b ≡ true
digit_no_ows b h =
    let both = and_parts (leb 48 b) (leb b 57) h in
    let low : 48 ≤ b = leb-true 48 b both.0 in
    let high : b ≤ 57 = leb-true b 57 both.1 in
    grind (arith, nat_tests)

skip_ows-none : (bytes : List ℕ) → AllPass is_no_ows bytes → skip_ows bytes ≡ bytes
skip_ows-none [] h = refl
skip_ows-none (b ∷ bytes) h = cond-false (is_ows b) _ _ (not-true _ (All-head (λ x. is_no_ows x ≡ true) b bytes h))

trim_ows-decimal : (n : ℕ) → n < 2 ^ 64 → trim_ows (decimal n) ≡ decimal n
unfolding trim_ows
trim_ows-decimal n lt =
    let h : AllPass is_no_ows (decimal n) = All-weaker IsDigit (λ b. is_no_ows b ≡ true) digit_no_ows (decimal n) (decimal_digits n lt) in
    ap (λ (xs : List ℕ). reverse (skip_ows (reverse xs))) (skip_ows-none (decimal n) h)
    ∙ ap reverse (skip_ows-none (reverse (decimal n)) (AllPass-reverse is_no_ows (decimal n) h))
    ∙ reverse-reverse (decimal n)

-- a number that is written is read
digits-pass : (digits : List ℕ) → AllDigits 10 digits → list_all (λ b. is_digit b 10) digits ≡ true
digits-pass [] h = refl
digits-pass (b ∷ digits) h = and_from _ _ (lt-ltb _ 10 h.0) (digits-pass digits h.1)

chosen : (a b c : Bool) (v n : ℕ) → a ≡ true → b ≡ true → c ≡ true → v ≡ n → (if (a && b) && c then Some v else None) ≡ Some n
chosen true true true v n e f g h = ap Some h
chosen true true false v n e f g h = cc
chosen true false c v n e f g h = cc
chosen false b c v n e f g h = cc

number-read : (n : ℕ) → n ≤ max_interval → number_of 10 max_interval (decimal n) ≡ Some n
unfolding number_of
number-read n small =
    let is = decimal_is_IsNumeral n (omega arith) in
    chosen _ _ _ (digits_value 10 (decimal n)) n (lt-ltb 0 (length (decimal n)) is.0.0) (digits-pass (decimal n) is.0.1)
    (le-leb (digits_value 10 (decimal n)) max_interval (rw is.1 small)) is.1

-- the headers behind those of the type, the name and the genre: what else the stream says of itself, an interval, and the end
abbrev last_headers : List ℕ → List ℕ → List ℕ → ℕ → List (List ℕ × List ℕ)
last_headers description url bitrate n =
    map read_back (shown_header (codes "icy-description") description
    ++ shown_header (codes "icy-url") url
    ++ shown_header (codes "icy-br") bitrate
    ++ interval_header (Some n)
    ++ (codes "Connection", codes "close") ∷ [])

no_last_coding : (description url bitrate : List ℕ) (n : ℕ) → value_of (codes "Transfer-Encoding") (last_headers description url bitrate n) ≡ None
no_last_coding [] [] [] n = refl
no_last_coding [] [] (d ∷ bitrate) n = refl
no_last_coding [] (b ∷ url) [] n = refl
no_last_coding [] (b ∷ url) (d ∷ bitrate) n = refl
no_last_coding (a ∷ description) [] [] n = refl
no_last_coding (a ∷ description) [] (d ∷ bitrate) n = refl
no_last_coding (a ∷ description) (b ∷ url) [] n = refl
no_last_coding (a ∷ description) (b ∷ url) (d ∷ bitrate) n = refl

last_interval : (description url bitrate : List ℕ) (n : ℕ)
    → value_of (codes "icy-metaint") (last_headers description url bitrate n) ≡ Some (trim_ows (decimal n))
last_interval [] [] [] n = refl
last_interval [] [] (d ∷ bitrate) n = refl
last_interval [] (b ∷ url) [] n = refl
last_interval [] (b ∷ url) (d ∷ bitrate) n = refl
last_interval (a ∷ description) [] [] n = refl
last_interval (a ∷ description) [] (d ∷ bitrate) n = refl
last_interval (a ∷ description) (b ∷ url) [] n = refl
last_interval (a ∷ description) (b ∷ url) (d ∷ bitrate) n = refl

-- the headers of an answer with an interval
abbrev headers_with : List ℕ → List ℕ → List ℕ → AboutHeaders → ℕ → List (List ℕ × List ℕ)
headers_with type name genre about n =
    map read_back ((codes "Content-Type", type) ∷ []
    ++ shown_header (codes "icy-name") name
    ++ shown_header (codes "icy-genre") genre
    ++ about_headers about
    ++ interval_header (Some n)
    ++ (codes "Connection", codes "close") ∷ [])

no_coding : (type name genre : List ℕ) (about : AboutHeaders) (n : ℕ)
    → value_of (codes "Transfer-Encoding") (headers_with type name genre about n) ≡ None
no_coding type [] [] about n = no_last_coding about.description about.url about.bitrate n
no_coding type [] (b ∷ genre) about n = no_last_coding about.description about.url about.bitrate n
no_coding type (b ∷ name) [] about n = no_last_coding about.description about.url about.bitrate n
no_coding type (b ∷ name) (d ∷ genre) about n = no_last_coding about.description about.url about.bitrate n

interval_there : (type name genre : List ℕ) (about : AboutHeaders) (n : ℕ)
    → value_of (codes "icy-metaint") (headers_with type name genre about n) ≡ Some (trim_ows (decimal n))
interval_there type [] [] about n = last_interval about.description about.url about.bitrate n
interval_there type [] (b ∷ genre) about n = last_interval about.description about.url about.bitrate n
interval_there type (b ∷ name) [] about n = last_interval about.description about.url about.bitrate n
interval_there type (b ∷ name) (d ∷ genre) about n = last_interval about.description about.url about.bitrate n

some_interval : (n : ℕ) → 1 ≤ n → interval_of (Some n) ≡ Ok (Some n)
some_interval zero low = absurd (omega arith)
some_interval (suc n) low = refl

told : (coding metaint : Option (List ℕ)) (n : ℕ) → coding ≡ None → metaint ≡ Some (trim_ows (decimal n)) → 1 ≤ n → n ≤ max_interval
    → (if is_some coding then Err BadHead else header_interval metaint) ≡ Ok (Some n)
told coding metaint n none some low high =
    rw (none, some) (rw (trim_ows-decimal n (omega arith), number-read n high) (some_interval n low))

interval-told : (w : Welcome) (n : ℕ) → w.interval ≡ Some n → 1 ≤ n → n ≤ max_interval → interval_in (listener_parts w) ≡ Ok (Some n)
interval-told w n is low high =
    rw is (told _ _ n (no_coding w.content_type w.name w.genre w.about n) (interval_there w.content_type w.name w.genre w.about n) low high)

-- ---- the titles

sent_titles : ((title : List ℕ) → HasNoUrlInside title → title_of (title_text title) ≡ Some title) → (titles : List (List ℕ)) → AreRelayable titles
    → titles_of_texts (map title_text titles) ≡ titles
sent_titles alone [] all = refl
sent_titles alone (title ∷ titles) (one, all) =
    let found = alone title one.no_url in
    rw found (ap (λ (t : List ℕ). t ∷ titles_of_texts (map title_text titles)) one.is_title.clean
    ∙ ap (λ (ts : List (List ℕ)). title ∷ ts) (sent_titles alone titles all))

-- ---- the whole

pub relays_lose_nothing : ReadingsAgree ShowsResponse → ShortListenerIsReadBack
    → ((n : ℕ) (out : List ℕ) → sound_heard (atoms_of_piece (new_unweaving n) out) ≡ bare n out)
    → ((n : ℕ) (out : List ℕ) → texts_in (atoms_of_piece (new_unweaving n) out) ≡ block_texts n out)
    → ((n : ℕ) (calls : List Call) (out : List ℕ) → 0 < n → IsWoven n calls out → bare n out ≡ sound_of_calls calls)
    → ((n : ℕ) (calls : List Call) (out : List ℕ) → 0 < n → IsWoven n calls out → block_texts n out ≡ map title_text (titles_sent n calls (interval_count n calls)))
    → ((title : List ℕ) → HasNoUrlInside title → title_of (title_text title) ≡ Some title) → RelaysLoseNothing
relays_lose_nothing agree read sounds texts bare_sound bare_texts alone w n calls out pulled clean short is low high woven titles h =
    let bytes = listener_text w ++ out in
    let size = length (listener_text w) in
    let fits : IfSome w.interval (λ m. m < 2 ^ 32) = subst (λ (i : Option ℕ). IfSome i (λ m. m < 2 ^ 32)) (sym is) (omega arith) in
    let head = read w out clean fits short in
    let same : pulled ≡ answer_pulled (listener_parts w) out =
    h.2 ∙ readings-alike agree bytes h.0 (Ok (Whole (listener_parts w) size)) h.1 head
    ∙ ap (answer_pulled (listener_parts w)) (drop-append_seam (listener_text w) out) in
    let found = woven_is_bare sounds texts (listener_parts w) n out (interval-told w n is low high) in (
      ap (λ (p : Pulled). sound_of_parts p.parts) same ∙ found.0 ∙ bare_sound n calls out low woven,
      ap (λ (p : Pulled). titles_in p.parts) same ∙ found.1
          ∙ ap titles_of_texts (bare_texts n calls out low woven)
          ∙ sent_titles alone (titles_sent n calls (interval_count n calls)) titles,
    )
