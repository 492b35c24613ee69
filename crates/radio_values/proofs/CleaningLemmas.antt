-- One character more of a text that is being cleaned.
use Rattle.std.proofs.Common.{◌≡◌, ℕ, ◌+◌, ◌-◌, ◌<◌, ◌≤◌, Bool, true, false, List, [], ◌∷◌, ◌++◌, length, drop, get_or, refl, arith, ap, ◌∙◌, sym}
use Rattle.std.specs.Prelude.{filter, encode_utf8, encode_utf8_all}
use Rattle.std.specs.Char.{len_utf8}
use Rattle.std.proofs.lemmas.Bool.{le-leb, lt-leb}
use Rattle.std.proofs.lemmas.List.{drop_more, append-nil, append_assoc}
use Rattle.std.proofs.Common.{zero, suc, take, cond}
use Rattle.std.specs.Str.{IsUtf8, is_utf8, chars}
use Rattle.std.specs.Str.Lossy.{utf8_lossy, utf8_valid_len, valid_len_up_to, utf8_invalid_len, utf8_error_len, error_len_of_some, error_len_after_one}
use Rattle.std.specs.Str.Lossy.{error_len_after_two, second_byte_min, second_byte_max, replacement_bytes, after_first_chunk}
use Rattle.std.proofs.Common.{Option, None, Some, unwrap_or, eqb, leb, ⊎_elim, subst}
use Rattle.std.specs.Prelude.{slice_index, nat_lt}
use Rattle.std.specs.Int.{is_in_range}
use Rattle.std.specs.List.{list_all}
use lib.Utf8.{scalars, scalar, encode, next}
use Rattle.std.proofs.lemmas.Bool.{cond_both, cases_eq, cases_lt, and_parts, and_from, ltb-false, ne_eqb, not_from_false}
use Rattle.std.proofs.lemmas.List.Folds.{list_all-append}
use Rattle.std.proofs.Common.{ltb, ◌/◌, ◌%◌}
use Rattle.std.proofs.lemmas.List.{nil_from_length, take_all, length-drop, length-append}
use Rattle.std.proofs.lemmas.Str.{IsUtf8-nil, IsUtf8-from_is_utf8, IsUtf8-append, utf8_lossy-IsUtf8, utf8_lossy_step, utf8_valid_len_le, scalars-chars}
use Rattle.std.proofs.lemmas.Str.{chars-encodes, length-encode}
use Rattle.radio_values.specs.Cleaning.{is_shown, front_within, shown_chars, cleaned}

-- the UTF-8 of what is kept of some characters in a room of m bytes
abbrev pub kept : ℕ → List ℕ → List ℕ
kept m cs = encode_utf8_all (front_within m (filter is_shown cs))

kept_hidden : (m c : ℕ) (cs : List ℕ) → is_shown c ≡ false → kept m (c ∷ cs) ≡ kept m cs
kept_hidden m c cs hidden = rw hidden refl

kept_no_room : (m c : ℕ) (cs : List ℕ) → is_shown c ≡ true → m < len_utf8 c → kept m (c ∷ cs) ≡ []
kept_no_room m c cs shown less = rw (shown, lt-leb (len_utf8 c) m less) refl

kept_room : (m c : ℕ) (cs : List ℕ) → is_shown c ≡ true → len_utf8 c ≤ m → kept m (c ∷ cs) ≡ encode_utf8 c ++ kept (m - len_utf8 c) cs
kept_room m c cs shown fits = rw (shown, le-leb (len_utf8 c) m fits) refl

next_is : (cs : List ℕ) (k c : ℕ) → (k < length cs) × (c ≡ get_or cs k c) → drop k cs ≡ c ∷ drop (k + 1) cs
next_is cs k c here = drop_more cs k c here.0 ∙ ap (λ (b : ℕ). b ∷ drop (k + 1) cs) (sym here.1)

-- the character at place k of cs, where `made` has been made of those before it
pub kept_past : (cs : List ℕ) (k c n m : ℕ) (made all : List ℕ) → (k < length cs) × (c ≡ get_or cs k c) → is_shown c ≡ false → n ≡ k + 1
    → made ++ kept m (drop k cs) ≡ all → made ++ kept m (drop n cs) ≡ all
kept_past cs k c n m made all here hidden next so_far =
    rw next (ap (λ t. made ++ t) (sym (ap (kept m) (next_is cs k c here) ∙ kept_hidden m c (drop (k + 1) cs) hidden)) ∙ so_far)

pub kept_full : (cs : List ℕ) (k c m : ℕ) (made all : List ℕ) → (k < length cs) × (c ≡ get_or cs k c) → is_shown c ≡ true → m < len_utf8 c
    → made ++ kept m (drop k cs) ≡ all → made ≡ all
kept_full cs k c m made all here shown less so_far =
    sym (append-nil made)
    ∙ (ap (λ t. made ++ t) (sym (ap (kept m) (next_is cs k c here) ∙ kept_no_room m c (drop (k + 1) cs) shown less)) ∙ so_far)

pub kept_more : (cs : List ℕ) (k c n m less : ℕ) (made made' all : List ℕ) → (k < length cs) × (c ≡ get_or cs k c) → is_shown c ≡ true → len_utf8 c ≤ m
    → n ≡ k + 1 → less ≡ m - len_utf8 c → made' ≡ made ++ encode_utf8 c → made ++ kept m (drop k cs) ≡ all → made' ++ kept less (drop n cs) ≡ all
kept_more cs k c n m less made made' all here shown fits next room new so_far =
    rw (next, room, new)
    (append_assoc made (encode_utf8 c) (kept (m - len_utf8 c) (drop (k + 1) cs))
    ∙ (ap (λ t. made ++ t) (sym (ap (kept m) (next_is cs k c here) ∙ kept_room m c (drop (k + 1) cs) shown fits)) ∙ so_far))

-- the longest front of bytes that is UTF-8 is UTF-8
valid_front : (bs : List ℕ) (n : ℕ) → IsUtf8 (take (valid_len_up_to bs n) bs)
valid_front bs zero = IsUtf8-nil
valid_front bs (suc n) =
    cond_both (is_utf8 (take (suc n) bs)) (suc n) (valid_len_up_to bs n) (λ k. IsUtf8 (take k bs))
    (λ e. IsUtf8-from_is_utf8 (take (suc n) bs) e)
    (λ e. valid_front bs n)

valid_front-IsUtf8 : (bs : List ℕ) → IsUtf8 (take (utf8_valid_len bs) bs)
unfolding utf8_valid_len
valid_front-IsUtf8 bs = valid_front bs (length bs)

-- bytes that begin no character are replaced, at least one at a time
invalid_some : (bs : List ℕ) → 0 < length bs → 0 < utf8_invalid_len bs
unfolding utf8_error_len
invalid_some bs some =
    let P : Option ℕ → Type 0 = λ o. 0 < unwrap_or o (length bs) in
    let x = slice_index bs 0 in
    let two : P (error_len_after_two bs) =
    cond_both (nat_lt (length bs) 3) None _ P (λ _. some)
    (λ _. cond_both (is_in_range 0x80 0xBF (slice_index bs 2)) (cond (nat_lt (length bs) 4) None (Some 3)) (Some 2) P
    (λ _. cond_both (nat_lt (length bs) 4) None (Some 3) P (λ _. some) (λ _. omega arith)) (λ _. omega arith)) in
    let one : P (error_len_after_one bs) =
    cond_both (nat_lt (length bs) 2) None _ P (λ _. some)
    (λ _. cond_both (is_in_range (second_byte_min x) (second_byte_max x) (slice_index bs 1)) (error_len_after_two bs) (Some 1) P (λ _. two)
    (λ _. omega arith)) in
    cond_both (eqb (length bs) 0) None (error_len_of_some bs) P (λ _. some)
    (λ _. cond_both (is_in_range 0xC2 0xF4 x) (error_len_after_one bs) (Some 1) P (λ _. one) (λ _. omega arith))

replacement-IsUtf8 : IsUtf8 replacement_bytes
unfolding encode
replacement-IsUtf8 = (0xFFFD ∷ [], (refl, refl))

-- text with U+FFFD for what is no UTF-8 is UTF-8
lossy_within : (k : ℕ) (bs : List ℕ) → length bs ≤ k → IsUtf8 (utf8_lossy bs)
lossy_within zero bs fits =
    let none : bs ≡ [] = nil_from_length bs (omega arith) in
    rw (none, utf8_lossy-IsUtf8 [] IsUtf8-nil) IsUtf8-nil
lossy_within (suc k) bs fits =
    let n = utf8_valid_len bs in
    let within = utf8_valid_len_le bs in
    ⊎_elim
    (λ (all : n ≡ length bs).
    let text : IsUtf8 bs = subst IsUtf8 (take_all n bs (omega arith)) (valid_front-IsUtf8 bs) in
    rw (utf8_lossy-IsUtf8 bs text) text)
    (λ (part : n ≡ length bs → ⊥).
    let rest = drop n bs in
    let more : n < length bs = omega arith in
    let some = invalid_some rest (omega (arith, length-drop n bs)) in
    let shorter : length (after_first_chunk bs) ≤ k = omega (arith, length-drop (n + utf8_invalid_len rest) bs) in
    rw (utf8_lossy_step bs part)
    (IsUtf8-append (take n bs) (replacement_bytes ++ utf8_lossy (after_first_chunk bs)) (valid_front-IsUtf8 bs)
    (IsUtf8-append replacement_bytes (utf8_lossy (after_first_chunk bs)) replacement-IsUtf8 (lossy_within k (after_first_chunk bs) shorter))))
    (cases_eq n (length bs))

utf8_lossy-text : (bs : List ℕ) → IsUtf8 (utf8_lossy bs)
utf8_lossy-text bs = lossy_within (length bs) bs (omega arith)

-- characters that are kept are characters
scalars-filter : (p : ℕ → Bool) (cs : List ℕ) → scalars cs ≡ true → scalars (filter p cs) ≡ true
scalars-filter p [] h = refl
scalars-filter p (c ∷ cs) h =
    cond_both (p c) (c ∷ filter p cs) (filter p cs) (λ t. scalars t ≡ true)
    (λ _. and_from (scalar c) _ (and_parts (scalar c) _ h).0 (scalars-filter p cs (and_parts (scalar c) _ h).1))
    (λ _. scalars-filter p cs (and_parts (scalar c) _ h).1)

scalars-front_within : (n : ℕ) (cs : List ℕ) → scalars cs ≡ true → scalars (front_within n cs) ≡ true
scalars-front_within n [] h = refl
scalars-front_within n (c ∷ cs) h =
    cond_both (leb (len_utf8 c) n) (c ∷ front_within (n - len_utf8 c) cs) [] (λ t. scalars t ≡ true)
    (λ _. and_from (scalar c) _ (and_parts (scalar c) _ h).0 (scalars-front_within (n - len_utf8 c) cs (and_parts (scalar c) _ h).1))
    (λ _. refl)

-- what is kept, as characters
abbrev pub kept_chars : ℕ → List ℕ → List ℕ
kept_chars n bytes = front_within n (shown_chars bytes)

scalars-kept_chars : (n : ℕ) (bytes : List ℕ) → scalars (kept_chars n bytes) ≡ true
scalars-kept_chars n bytes =
    scalars-front_within n (shown_chars bytes) (scalars-filter is_shown (chars (utf8_lossy bytes)) (scalars-chars (utf8_lossy bytes) (utf8_lossy-text bytes)))

-- a cleaned text is UTF-8
pub cleaned-IsUtf8 : (n : ℕ) (bytes : List ℕ) → IsUtf8 (cleaned n bytes)
unfolding cleaned
cleaned-IsUtf8 n bytes = (kept_chars n bytes, (scalars-kept_chars n bytes, refl))

pub chars-cleaned : (n : ℕ) (bytes : List ℕ) → chars (cleaned n bytes) ≡ kept_chars n bytes
unfolding cleaned
chars-cleaned n bytes = chars-encodes (kept_chars n bytes) (scalars-kept_chars n bytes)

-- it fits
fits_within : (n : ℕ) (cs : List ℕ) → length (encode_utf8_all (front_within n cs)) ≤ n
fits_within n [] = omega arith
fits_within n (c ∷ cs) = ⊎_elim
    (λ (less : n < len_utf8 c). rw (lt-leb (len_utf8 c) n less) (omega arith))
    (λ (fits : len_utf8 c ≤ n).
    rw (le-leb (len_utf8 c) n fits)
    (omega (arith, length-append (encode_utf8 c) (encode_utf8_all (front_within (n - len_utf8 c) cs)), length-encode c, fits_within (n - len_utf8 c) cs)))
    (cases_lt n (len_utf8 c))

pub cleaned-fits : (n : ℕ) (bytes : List ℕ) → length (cleaned n bytes) ≤ n
unfolding cleaned
cleaned-fits n bytes = fits_within n (shown_chars bytes)

-- each of its characters may be shown
shown-filter : (cs : List ℕ) → list_all is_shown (filter is_shown cs) ≡ true
shown-filter [] = refl
shown-filter (c ∷ cs) =
    cond_both (is_shown c) (c ∷ filter is_shown cs) (filter is_shown cs) (λ t. list_all is_shown t ≡ true)
    (λ e. and_from (is_shown c) _ e (shown-filter cs))
    (λ _. shown-filter cs)

shown-front_within : (n : ℕ) (cs : List ℕ) → list_all is_shown cs ≡ true → list_all is_shown (front_within n cs) ≡ true
shown-front_within n [] h = refl
shown-front_within n (c ∷ cs) h =
    cond_both (leb (len_utf8 c) n) (c ∷ front_within (n - len_utf8 c) cs) [] (λ t. list_all is_shown t ≡ true)
    (λ _. and_from (is_shown c) _ (and_parts (is_shown c) _ h).0 (shown-front_within (n - len_utf8 c) cs (and_parts (is_shown c) _ h).1))
    (λ _. refl)

shown-kept_chars : (n : ℕ) (bytes : List ℕ) → list_all is_shown (kept_chars n bytes) ≡ true
shown-kept_chars n bytes = shown-front_within n (shown_chars bytes) (shown-filter (chars (utf8_lossy bytes)))

pub cleaned-shown : (n : ℕ) (bytes : List ℕ) → list_all is_shown (chars (cleaned n bytes)) ≡ true
cleaned-shown n bytes = rw (chars-cleaned n bytes) (shown-kept_chars n bytes)

-- and so may each of its bytes, read as a character: those of characters beyond ASCII are 128 and more
shown_byte : (b : ℕ) → 128 ≤ b → is_shown b ≡ true
shown_byte b large = and_from (leb 32 b) _ (le-leb 32 b (omega arith)) (not_from_false (eqb b 127) (ne_eqb b 127 (λ e. absurd (omega arith))))

shown-encode : (c : ℕ) → is_shown c ≡ true → list_all is_shown (encode c) ≡ true
unfolding encode
shown-encode c shown =
    cond_both (ltb c 128) _ _ (λ t. list_all is_shown t ≡ true)
    (λ _. and_from (is_shown c) true shown refl)
    (λ _. cond_both (ltb c 2048) _ _ (λ t. list_all is_shown t ≡ true)
    (λ _. from_lead (192 + c / 64) (next c ∷ []) (omega arith) (from_next c [] refl))
    (λ _. cond_both (ltb c 65536) _ _ (λ t. list_all is_shown t ≡ true)
    (λ _. from_lead (224 + c / 4096) (next (c / 64) ∷ next c ∷ []) (omega arith) (from_next (c / 64) (next c ∷ []) (from_next c [] refl)))
    (λ _. from_lead (240 + c / 262144) (next (c / 4096) ∷ next (c / 64) ∷ next c ∷ []) (omega arith)
    (from_next (c / 4096) (next (c / 64) ∷ next c ∷ []) (from_next (c / 64) (next c ∷ []) (from_next c [] refl))))))
  where
    from_lead : (b : ℕ) (bs : List ℕ) → 128 ≤ b → list_all is_shown bs ≡ true → list_all is_shown (b ∷ bs) ≡ true
    from_lead b bs large rest = and_from (is_shown b) _ (shown_byte b large) rest

    from_next : (n : ℕ) (bs : List ℕ) → list_all is_shown bs ≡ true → list_all is_shown (next n ∷ bs) ≡ true
    from_next n bs rest = from_lead (128 + n % 64) bs (omega arith) rest

shown-encodes : (cs : List ℕ) → list_all is_shown cs ≡ true → list_all is_shown (encode_utf8_all cs) ≡ true
shown-encodes [] h = refl
shown-encodes (c ∷ cs) h =
    list_all-append is_shown (encode_utf8 c) (encode_utf8_all cs)
    ∙ and_from _ _ (shown-encode c (and_parts (is_shown c) _ h).0) (shown-encodes cs (and_parts (is_shown c) _ h).1)

pub cleaned-bytes : (n : ℕ) (bytes : List ℕ) → list_all is_shown (cleaned n bytes) ≡ true
unfolding cleaned
cleaned-bytes n bytes = shown-encodes (kept_chars n bytes) (shown-kept_chars n bytes)

-- it is a front, and no longer one fits
front_within-front : (n : ℕ) (cs : List ℕ) → take (length (front_within n cs)) cs ≡ front_within n cs
front_within-front n [] = refl
front_within-front n (c ∷ cs) =
    cond_both (leb (len_utf8 c) n) (c ∷ front_within (n - len_utf8 c) cs) [] (λ t. take (length t) (c ∷ cs) ≡ t)
    (λ _. ap (λ t. c ∷ t) (front_within-front (n - len_utf8 c) cs))
    (λ _. refl)

front_within-longest : (n k : ℕ) (cs : List ℕ) → length (encode_utf8_all (take k cs)) ≤ n → take k (front_within n cs) ≡ take k cs
front_within-longest n zero cs fits = refl
front_within-longest n (suc k) [] fits = refl
front_within-longest n (suc k) (c ∷ cs) fits =
    let size : length (encode_utf8_all (take (suc k) (c ∷ cs))) ≡ len_utf8 c + length (encode_utf8_all (take k cs)) =
    length-append (encode_utf8 c) (encode_utf8_all (take k cs)) ∙ ap (λ (m : ℕ). m + length (encode_utf8_all (take k cs))) (length-encode c) in
    rw (le-leb (len_utf8 c) n (omega arith)) (ap (λ t. c ∷ t) (front_within-longest (n - len_utf8 c) k cs (omega arith)))

pub cleaned-front : (n : ℕ) (bytes : List ℕ) → take (length (chars (cleaned n bytes))) (shown_chars bytes) ≡ chars (cleaned n bytes)
cleaned-front n bytes = rw (chars-cleaned n bytes) (front_within-front n (shown_chars bytes))

pub cleaned-longest : (n : ℕ) (bytes : List ℕ) (k : ℕ) → length (encode_utf8_all (take k (shown_chars bytes))) ≤ n
    → take k (chars (cleaned n bytes)) ≡ take k (shown_chars bytes)
cleaned-longest n bytes k fits = rw (chars-cleaned n bytes) (front_within-longest n k (shown_chars bytes) fits)

-- a clean text is left as it is
filter-all : (cs : List ℕ) → list_all is_shown cs ≡ true → filter is_shown cs ≡ cs
filter-all [] h = refl
filter-all (c ∷ cs) h = rw (and_parts (is_shown c) _ h).0 (ap (λ t. c ∷ t) (filter-all cs (and_parts (is_shown c) _ h).1))

front_within-again : (n : ℕ) (cs : List ℕ) → front_within n (front_within n cs) ≡ front_within n cs
front_within-again n [] = refl
front_within-again n (c ∷ cs) = ⊎_elim
    (λ (less : n < len_utf8 c). rw (lt-leb (len_utf8 c) n less) refl)
    (λ (fits : len_utf8 c ≤ n).
    rw (le-leb (len_utf8 c) n fits) (rw (le-leb (len_utf8 c) n fits) (ap (λ t. c ∷ t) (front_within-again (n - len_utf8 c) cs))))
    (cases_lt n (len_utf8 c))

pub cleaned-cleaned : (n : ℕ) (bytes : List ℕ) → cleaned n (cleaned n bytes) ≡ cleaned n bytes
unfolding cleaned
cleaned-cleaned n bytes =
    let text = cleaned n bytes in
    ap (λ t. encode_utf8_all (front_within n (filter is_shown (chars t)))) (utf8_lossy-IsUtf8 text (cleaned-IsUtf8 n bytes))
    ∙ (ap (λ t. encode_utf8_all (front_within n (filter is_shown t))) (chars-cleaned n bytes)
    ∙ (ap (λ t. encode_utf8_all (front_within n t)) (filter-all (kept_chars n bytes) (shown-kept_chars n bytes))
    ∙ ap encode_utf8_all (front_within-again n (shown_chars bytes))))
