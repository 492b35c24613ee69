-- Escaped bytes are read back.
use Rattle.std.proofs.Common.{◌≡◌, ℕ, ◌+◌, ◌*◌, ◌/◌, ◌%◌, ◌<◌, Bool, true, false, nat_lt, ◌==◌, List, [], ◌∷◌, ◌++◌, Option, Some, None, refl, ap, ◌∙◌, subst}
use Rattle.std.proofs.Common.{arith, append_assoc, add-one, drop-cons, drop, get_or, length, suc}
use Rattle.radio_script.proofs.Words.{flat_map, AllByRecursion, option_map, option_to_list, MatchOption, digit_char, nat_tests, Between, Escape, High, Low, EscapePlace, is_unescaped, escape_of, escaped, hex_value_of}
use Rattle.radio_script.proofs.Words.{step_at, unescaped_from, unescaped}
use Rattle.std.proofs.lemmas.Str.{digit_value-digit_char}

-- The text is read as this byte, and then the rest.
abbrev pub ReadsAs : List ℕ → ℕ → List ℕ → Type 0
ReadsAs text b rest = unescaped_from Between text ≡ option_map (λ bytes. b ∷ bytes) (unescaped_from Between rest)

-- nothing is added, and then a byte
one_more : (b : ℕ) (o : Option (List ℕ)) → option_map (λ bytes. [] ++ bytes) (option_map (λ bytes. (b ∷ []) ++ bytes) o) ≡ option_map (λ bytes. b ∷ bytes) o
one_more b None = refl
one_more b (Some bytes) = refl

pub three_more : (b : ℕ) (o : Option (List ℕ))
    → option_map (λ bytes. [] ++ bytes) (option_map (λ bytes. [] ++ bytes) (option_map (λ bytes. [] ++ bytes) (option_map (λ bytes. (b ∷ []) ++ bytes) o)))
    ≡ option_map (λ bytes. b ∷ bytes) o
three_more b None = refl
three_more b (Some bytes) = refl

hex_value_of-digit_char : (d : ℕ) → d < 16 → hex_value_of (digit_char d) ≡ Some d
hex_value_of-digit_char d small =
    let value = digit_value-digit_char d (omega arith) in
    let below : nat_lt d 16 ≡ true = grind (arith, nat_tests) in
    rw (value, below) refl

read_digits : (h l : ℕ) (rest : List ℕ) → h < 16 → l < 16 → ReadsAs (92 ∷ 120 ∷ digit_char h ∷ digit_char l ∷ rest) (h * 16 + l) rest
read_digits h l rest high low =
    rw (hex_value_of-digit_char h high, hex_value_of-digit_char h high, hex_value_of-digit_char l low) (three_more (h * 16 + l) (unescaped_from Between rest))

pub read_named : (b c : ℕ) (rest : List ℕ) → step_at Escape c ≡ Some (Between, Some b) → ReadsAs (92 ∷ c ∷ rest) b rest
read_named b c rest e = rw e (one_more b (unescaped_from Between rest))

pub read_plain : (b : ℕ) (rest : List ℕ) → (b == 92) ≡ false → is_unescaped b ≡ true → ReadsAs (b ∷ rest) b rest
read_plain b rest other plain = rw (plain, other) refl

read_by_plain : (b : ℕ) (rest : List ℕ) → b < 256 → (b == 13) ≡ false → (b == 10) ≡ false → (b == 92) ≡ false → (t : Bool) → is_unescaped b ≡ t
    → ReadsAs (escape_of b ++ rest) b rest
read_by_plain b rest small e13 e10 e92 true plain = rw (e13, e10, plain, e92) (read_plain b rest e92 plain)
read_by_plain b rest small e13 e10 e92 false plain =
    let value : (b / 16) * 16 + b % 16 ≡ b = omega arith in
    rw (e13, e10, plain, e92) (subst (λ x. ReadsAs (92 ∷ 120 ∷ digit_char (b / 16) ∷ digit_char (b % 16) ∷ rest) x rest) value
    (read_digits (b / 16) (b % 16) rest (omega arith) (omega arith)))

read_by_backslash : (b : ℕ) (rest : List ℕ) → b < 256 → (b == 13) ≡ false → (b == 10) ≡ false → (t : Bool) → (b == 92) ≡ t
    → ReadsAs (escape_of b ++ rest) b rest
read_by_backslash b rest small e13 e10 true e92 =
    let value : 92 ≡ b = grind (arith, nat_tests) in
    subst (λ x. ReadsAs (escape_of x ++ rest) x rest) value (read_named 92 92 rest refl)
read_by_backslash b rest small e13 e10 false e92 = read_by_plain b rest small e13 e10 e92 (is_unescaped b) refl

read_by_feed : (b : ℕ) (rest : List ℕ) → b < 256 → (b == 13) ≡ false → (t : Bool) → (b == 10) ≡ t → ReadsAs (escape_of b ++ rest) b rest
read_by_feed b rest small e13 true e10 =
    let value : 10 ≡ b = grind (arith, nat_tests) in
    subst (λ x. ReadsAs (escape_of x ++ rest) x rest) value (read_named 10 110 rest refl)
read_by_feed b rest small e13 false e10 = read_by_backslash b rest small e13 e10 (b == 92) refl

pub read_by_return : (b : ℕ) (rest : List ℕ) → b < 256 → (t : Bool) → (b == 13) ≡ t → ReadsAs (escape_of b ++ rest) b rest
read_by_return b rest small true e13 =
    let value : 13 ≡ b = grind (arith, nat_tests) in
    subst (λ x. ReadsAs (escape_of x ++ rest) x rest) value (read_named 13 114 rest refl)
read_by_return b rest small false e13 = read_by_feed b rest small e13 (b == 10) refl

pub unescaped_escaped : (bytes : List ℕ) → AllByRecursion (λ b. b < 256) bytes → unescaped (escaped bytes) ≡ Some bytes
unfolding unescaped escaped
unescaped_escaped [] h = refl
unescaped_escaped (b ∷ bytes) h =
    read_by_return b (flat_map escape_of bytes) h.0 (b == 13) refl ∙ ap (option_map (λ rest. b ∷ rest)) (unescaped_escaped bytes h.1)

-- One byte of a text was taken. The bytes read so far and those read from there on are the same bytes.
joined : (bytes more : List ℕ) (o : Option (List ℕ)) → option_map (λ rest. (bytes ++ more) ++ rest) o
    ≡ option_map (λ rest. bytes ++ rest) (option_map (λ rest. more ++ rest) o)
joined bytes more None = refl
joined bytes more (Some rest) = ap Some (append_assoc bytes more rest)

steps_on : (place : EscapePlace) (b : ℕ) (rest : List ℕ) (step : EscapePlace × Option ℕ) → step_at place b ≡ Some step
    → unescaped_from place (b ∷ rest) ≡ option_map (λ bytes. option_to_list step.1 ++ bytes) (unescaped_from step.0 rest)
steps_on Between b rest step e = rw e refl
steps_on Escape b rest step e = rw e refl
steps_on High b rest step e = rw e refl
steps_on (Low high) b rest step e = rw e refl

pub taken : (bytes new : List ℕ) (place next : EscapePlace) (text : List ℕ) (i : ℕ) → i < length text
    → (r : Option (EscapePlace × Option ℕ)) → step_at place (get_or text i 0) ≡ r
    → MatchOption r (Some next ≡ None) (λ step. (Some next ≡ Some step.0) × (new ≡ bytes ++ option_to_list step.1))
    → option_map (λ rest. new ++ rest) (unescaped_from next (drop (i + 1) text)) ≡ option_map (λ rest. bytes ++ rest) (unescaped_from place (drop i text))
taken bytes new place next text i low None e h = cc
taken bytes new place next text i low (Some step) e h =
    let same : next ≡ step.0 = cc in
    rw (same, h.1, drop-cons text i 0, steps_on place (get_or text i 0) (drop (suc i) text) step e, add-one)
    (joined bytes (option_to_list step.1) (unescaped_from step.0 (drop (suc i) text)))
