-- The answers that are written are heads of the grammar, with the status and the headers that they were written with.
use Rattle.std.proofs.Common.{◌≡◌, ℕ, ◌+◌, ◌/◌, ◌%◌, ◌<◌, ◌≤◌, ◌^◌, true, List, [], ◌∷◌, ◌++◌, length, map, Some, codes, decimal, refl, sym, ap, ◌∙◌, subst}
use Rattle.std.proofs.Common.{arith, lit<, append_assoc}
use Rattle.std.specs.Prelude.{All}
use Rattle.std.specs.Char.{is_ascii_digit}
use Rattle.std.specs.List.{flat_map, list_all}
use Rattle.std.specs.Str.Parse.{digits_value}
use Rattle.std.proofs.lemmas.Fmt.{decimal_step, decimal_digit}
use Rattle.std.proofs.lemmas.List.{length-map}
use Rattle.std.proofs.lemmas.List.Elements.{All-cons, All-head, All-tail, All-map, All-weaker}
use Rattle.std.proofs.lemmas.List.Sums.{AllPass-from_list_all}
use Rattle.httparse.specs.Ascii.{space}
use Rattle.httparse.specs.Grammar.{AllPass, IsToken, is_value_byte, trim_ows, crlf, Field, IsField, print_field, ResponseHead, IsResponseHead, print_response}
use Rattle.httparse.specs.Spans.{name_and_value}
use Rattle.radio_heads.specs.declared.response.Version.TheVariants.{Http10}
use Rattle.radio_heads.specs.Answer.{line, header_line, status_line}
use Rattle.radio_heads.specs.Laws.{read_back}
use Rattle.radio_heads.specs.Reading.{IsHead}
use Rattle.radio_heads.specs.Response.{ResponseParts, ShowsResponse, response_parts}
use Rattle.radio_heads.proofs.FoundLemmas.{response_is_head}

-- ---- headers as fields of the grammar

abbrev pub Header : Type 0
Header = List ℕ × List ℕ

-- the field that a written header is
abbrev pub field_of : Header → Field
field_of h = record { name = h.0; raw = space ∷ h.1; end = crlf }

abbrev pub header_text : Header → List ℕ
header_text h = header_line h.0 h.1

-- a value that comes back as it is
pub record IsHeaderValue (value : List ℕ) : Type 0 where
  pub bytes : AllPass is_value_byte value
  pub trimmed : trim_ows value ≡ value

-- a header whose name is a token and whose value has no byte that ends a line
pub record IsSoundHeader (h : Header) : Type 0 where
  pub name : IsToken h.0
  pub bytes : AllPass is_value_byte h.1

-- a header whose name is a token and whose value comes back
pub record IsCleanHeader (h : Header) : Type 0 where
  pub name : IsToken h.0
  pub value : IsHeaderValue h.1

pub print_field_of : (h : Header) → print_field (field_of h) ≡ header_text h
print_field_of h = ap (λ (text : List ℕ). line text) (sym (append_assoc h.0 (codes ": ") h.1))

pub print_fields_of : (headers : List Header) → flat_map print_field (map field_of headers) ≡ flat_map header_text headers
print_fields_of [] = refl
print_fields_of (h ∷ headers) =
    ap (λ (text : List ℕ). text ++ flat_map print_field (map field_of headers)) (print_field_of h)
    ∙ ap (λ (more : List ℕ). header_text h ++ more) (print_fields_of headers)

pub sound_from : (headers : List Header) → All IsCleanHeader headers → All IsSoundHeader headers
sound_from headers all =
    All-weaker IsCleanHeader IsSoundHeader (λ h clean. record { name = clean.name; bytes = clean.value.bytes }) headers all

pub fields_are_sound : (headers : List Header) → All IsSoundHeader headers → All IsField (map field_of headers)
fields_are_sound headers all = All-map IsField field_of headers
    (All-weaker IsSoundHeader (λ h. IsField (field_of h)) (λ h sound. record {
      name = sound.name;
      raw = All-cons (λ b. is_value_byte b ≡ true) space h.1 refl sound.bytes;
    }) headers all)

trim_ows-space : (value : List ℕ) → trim_ows (space ∷ value) ≡ trim_ows value
unfolding trim_ows
trim_ows-space value = refl

pub names_and_values : (headers : List Header) → map name_and_value (map field_of headers) ≡ map read_back headers
names_and_values [] = refl
names_and_values (h ∷ headers) =
    ap (λ (v : List ℕ). (h.0, v) ∷ map name_and_value (map field_of headers)) (trim_ows-space h.1)
    ∙ ap (λ (more : List Header). read_back h ∷ more) (names_and_values headers)

pub read_back_clean : (headers : List Header) → All IsCleanHeader headers → map read_back headers ≡ headers
read_back_clean [] all = refl
read_back_clean (h ∷ headers) all =
    ap (λ (v : List ℕ). (h.0, v) ∷ map read_back headers) (All-head IsCleanHeader h headers all).value.trimmed
    ∙ ap (λ (more : List Header). h ∷ more) (read_back_clean headers (All-tail IsCleanHeader h headers all))

-- ---- status lines

-- a status number, its digits and its phrase
pub record IsStatus (n : ℕ) (digits phrase : List ℕ) : Type 0 where
  pub line_is : status_line (codes "HTTP/1.0") n ≡ line (codes "HTTP/1.0" ++ codes " " ++ (digits ++ codes " " ++ phrase))
  pub value : digits_value 10 digits ≡ n
  pub three : length digits ≡ 3
  pub digits_pass : AllPass is_ascii_digit digits
  pub phrase_passes : AllPass is_value_byte phrase
  pub phrase_short : length phrase ≤ 20

-- three digits, as they are written
pub decimal-three : (n : ℕ) → 100 ≤ n → n < 1000
    → decimal n ≡ ((48 + n / 10 / 10) ∷ []) ++ (48 + n / 10 % 10) ∷ [] ++ (48 + n % 10) ∷ []
decimal-three n low high =
    decimal_step n (omega arith) (omega (arith, big))
    ∙ ap (λ (ds : List ℕ). ds ++ (48 + n % 10) ∷ []) (decimal_step (n / 10) (omega arith) (omega (arith, big))
    ∙ ap (λ (ds : List ℕ). ds ++ (48 + n / 10 % 10) ∷ []) (decimal_digit (n / 10 / 10) (omega arith)))
  where
    big : 1000 < 2 ^ 64
    big = lit< tt

-- the status line of those digits and that phrase
abbrev pub written_status : List ℕ → List ℕ → List ℕ
written_status phrase digits = line (codes "HTTP/1.0" ++ codes " " ++ (digits ++ codes " " ++ phrase))

pub IsStatus-from : (n : ℕ) (digits phrase : List ℕ) → status_line (codes "HTTP/1.0") n ≡ written_status phrase digits
    → digits_value 10 digits ≡ n → length digits ≡ 3 → list_all is_ascii_digit digits ≡ true → list_all is_value_byte phrase ≡ true
    → length phrase ≤ 20 → IsStatus n digits phrase
IsStatus-from n digits phrase line_is value three digits_pass phrase_passes phrase_short = record {
  line_is = line_is;
  value = value;
  three = three;
  digits_pass = AllPass-from_list_all is_ascii_digit digits digits_pass;
  phrase_passes = AllPass-from_list_all is_value_byte phrase phrase_passes;
  phrase_short = phrase_short;
}

pub status_200 : IsStatus 200 (codes "200") (codes "OK")
unfolding status_line
status_200 = IsStatus-from 200 (codes "200") (codes "OK")
    (ap (written_status (codes "OK")) (decimal-three 200 (omega arith) (omega arith))) refl refl refl refl (omega arith)

pub status_400 : IsStatus 400 (codes "400") (codes "Bad Request")
unfolding status_line
status_400 = IsStatus-from 400 (codes "400") (codes "Bad Request")
    (ap (written_status (codes "Bad Request")) (decimal-three 400 (omega arith) (omega arith))) refl refl refl refl (omega arith)

pub status_401 : IsStatus 401 (codes "401") (codes "Unauthorized")
unfolding status_line
status_401 = IsStatus-from 401 (codes "401") (codes "Unauthorized")
    (ap (written_status (codes "Unauthorized")) (decimal-three 401 (omega arith) (omega arith))) refl refl refl refl (omega arith)

pub status_403 : IsStatus 403 (codes "403") (codes "Forbidden")
unfolding status_line
status_403 = IsStatus-from 403 (codes "403") (codes "Forbidden")
    (ap (written_status (codes "Forbidden")) (decimal-three 403 (omega arith) (omega arith))) refl refl refl refl (omega arith)

pub status_404 : IsStatus 404 (codes "404") (codes "Not Found")
unfolding status_line
status_404 = IsStatus-from 404 (codes "404") (codes "Not Found")
    (ap (written_status (codes "Not Found")) (decimal-three 404 (omega arith) (omega arith))) refl refl refl refl (omega arith)

-- ---- written heads

-- the head of the grammar with that status and these headers
abbrev pub head_of : List ℕ → List ℕ → List Header → ResponseHead
head_of digits phrase headers = record {
  blank = [];
  minor = 0;
  digits = digits;
  reason = Some phrase;
  line_end = crlf;
  fields = map field_of headers;
  last = crlf;
}

-- a status line, headers and an empty line
abbrev pub head_text : ℕ → List Header → List ℕ
head_text n headers = status_line (codes "HTTP/1.0") n ++ flat_map header_text headers ++ line []

pub print_head_of : (n : ℕ) (digits phrase : List ℕ) (headers : List Header) → IsStatus n digits phrase
    → print_response (head_of digits phrase headers) ≡ head_text n headers
unfolding print_response
print_head_of n digits phrase headers status =
    regroup (codes "HTTP/1.0") digits phrase (codes "\r\n") (flat_map print_field (map field_of headers))
    ∙ ap (λ (fields : List ℕ). written_status phrase digits ++ fields ++ line []) (print_fields_of headers)
    ∙ ap (λ (first : List ℕ). first ++ flat_map header_text headers ++ line []) (sym status.line_is)
  where
    regroup : (v d p c f : List ℕ)
        → v ++ 32 ∷ d ++ (32 ∷ p) ++ c ++ (f ++ c) ≡ (((v ++ 32 ∷ []) ++ ((d ++ 32 ∷ []) ++ p)) ++ c) ++ f ++ c
    regroup v d p c f = simp append_assoc

pub head_of_is_head : (n : ℕ) (digits phrase : List ℕ) (headers : List Header) → IsStatus n digits phrase
    → All IsSoundHeader headers → IsResponseHead (head_of digits phrase headers)
head_of_is_head n digits phrase headers status sound = record {
  minor = omega arith;
  digits = (status.three, status.digits_pass);
  reason = status.phrase_passes;
  fields = fields_are_sound headers sound;
}

-- a head that was written is read back, without the white space at the ends of its values
pub head_is_written : (n : ℕ) (digits phrase : List ℕ) (headers : List Header) (more : List ℕ) → IsStatus n digits phrase
    → All IsSoundHeader headers → length headers ≤ 64 → length (head_text n headers) ≤ 8192
    → IsHead ShowsResponse (head_text n headers ++ more) (record { version = Http10; status = n; headers = map read_back headers })
    (length (head_text n headers))
head_is_written n digits phrase headers more status sound few short =
    let text = print_head_of n digits phrase headers status in
    let size : length (print_response (head_of digits phrase headers)) ≡ length (head_text n headers) = ap length text in
    let parts : response_parts (head_of digits phrase headers) ≡ record { version = Http10; status = n; headers = map read_back headers }
    = ap (λ (v : ℕ). record { version = Http10; status = v; headers = map name_and_value (map field_of headers) }) status.value
    ∙ ap (λ (hs : List Header). record { version = Http10; status = n; headers = hs }) (names_and_values headers) in
    subst (λ (k : ℕ). IsHead ShowsResponse (head_text n headers ++ more) (record { version = Http10; status = n; headers = map read_back headers }) k) size
    (subst (λ (p : ResponseParts). IsHead ShowsResponse (head_text n headers ++ more) p (length (print_response (head_of digits phrase headers)))) parts
    (response_is_head (head_text n headers ++ more) more (head_of digits phrase headers)
    (head_of_is_head n digits phrase headers status sound, ap (λ (xs : List ℕ). xs ++ more) (sym text))
    (omega (arith, length-map headers field_of)) (omega (arith, size))))

-- the same of values with no white space at their ends
pub head_is_read : (n : ℕ) (digits phrase : List ℕ) (headers : List Header) (more : List ℕ) → IsStatus n digits phrase
    → All IsCleanHeader headers → length headers ≤ 64 → length (head_text n headers) ≤ 8192
    → IsHead ShowsResponse (head_text n headers ++ more) (record { version = Http10; status = n; headers = headers })
    (length (head_text n headers))
head_is_read n digits phrase headers more status clean few short =
    subst (λ (hs : List Header). IsHead ShowsResponse (head_text n headers ++ more) (record { version = Http10; status = n; headers = hs })
    (length (head_text n headers)))
    (read_back_clean headers clean) (head_is_written n digits phrase headers more status (sound_from headers clean) few short)
