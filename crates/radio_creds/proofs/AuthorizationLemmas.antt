-- The scheme, the spaces and the base64 of a value.
use Rattle.std.proofs.Common.{◌≡◌, ℕ, suc, zero, ◌/◌, ◌<◌, Bool, true, false, cond, List, [], ◌∷◌, ◌++◌, length, take, drop, replicate, get_or, eqb, Option}
use Rattle.std.proofs.Common.{None, Some, refl, sym, ap, subst, ◌∙◌, ⊎_elim, arith, map}
use Rattle.std.specs.Prelude.{codes, ◌&&◌, ◌||◌}
use Rattle.std.specs.Char.{to_ascii_lowercase}
use Rattle.std.specs.List.{list_any}
use Rattle.std.specs.Option.{is_some, unwrap_or, option_and_then}
use Rattle.std.specs.Str.{bytes_eq}
use Rattle.std.proofs.lemmas.Bool.{false≢true, cases_lt}
use Rattle.std.proofs.lemmas.Bool.Decides.{Decides-eqb}
use Rattle.std.proofs.lemmas.Slice.Eq.{bytes_eq-Decides}
use Rattle.std.proofs.lemmas.List.{take-append-drop, length-map, get_or_past}
use Rattle.std.proofs.Math.Seq.{take-append_seam, drop-append_seam, drop-cons, get_or-append_seam}
use Rattle.base64.specs.Engines.{standard}
use Rattle.base64.specs.Rfc4648.{encode_symbols}
use Rattle.base64.specs.GeneralPurpose.{encode_of, engine_symbols, decoded_of, IsBytes}
use Rattle.base64.proofs.EngineFacts.{decode_of-encode_of}
use Rattle.base64.proofs.Streams.{decoded_of-ok}
use Rattle.radio_creds.specs.Credentials.{Credentials, colon, credentials_of}
use Rattle.radio_creds.specs.Authorization.{IsBasicPair, space, without_spaces, basic_text, basic_pair}
use Rattle.radio_creds.proofs.ColonLemmas.{CutsFirst, credentials_of-user, credentials_of-text}

pub is_false : (b : Bool) → (b ≡ true → ⊥) → b ≡ false
is_false true h = absurd (h refl)
is_false false h = refl

and_false : (b : Bool) → (b && false) ≡ false
and_false true = refl
and_false false = refl

no_space_among : (symbols : List ℕ) → list_any (λ b. eqb b space) symbols ≡ false → (i : ℕ) → eqb (get_or symbols i 0) space ≡ false
no_space_among [] h i = refl
no_space_among (b ∷ symbols) h zero = elim (eqb b space) as (λ t. (t || list_any (λ b. eqb b space) symbols) ≡ false
    → t ≡ false) [ true ↦ λ e. e | false ↦ λ _. refl ] h
no_space_among (b ∷ symbols) h (suc i) =
    no_space_among symbols (elim (eqb b space) as (λ t. (t || list_any (λ b. eqb b space) symbols) ≡ false
    → list_any (λ b. eqb b space) symbols ≡ false) [ true ↦ λ e. absurd (false≢true (sym e)) | false ↦ λ e. e ] h) i

no_space : (i : ℕ) → eqb (get_or (engine_symbols standard) i 0) space ≡ false
no_space = no_space_among (engine_symbols standard) refl

-- a text stays as it is, if no space stands at its front
kept : (b : ℕ) (text : List ℕ) → eqb b space ≡ false → without_spaces (b ∷ text) ≡ b ∷ text
kept b text h = ap (λ t. cond t (without_spaces text) (b ∷ text)) h

-- no space stands at the front of what is encoded
without_spaces-encoded : (a : ℕ) (m : List ℕ) → without_spaces (encode_of standard (a ∷ m)) ≡ encode_of standard (a ∷ m)
unfolding encode_symbols
without_spaces-encoded a [] = kept _ _ (no_space (a / 4))
without_spaces-encoded a (b ∷ []) = kept _ _ (no_space (a / 4))
without_spaces-encoded a (b ∷ c ∷ m) = kept _ _ (no_space (a / 4))

-- the same of a user, a colon and a password
without_spaces-credentials : (user password : List ℕ)
    → without_spaces (encode_of standard (user ++ colon ∷ password)) ≡ encode_of standard (user ++ colon ∷ password)
without_spaces-credentials [] password = without_spaces-encoded colon password
without_spaces-credentials (b ∷ user) password = without_spaces-encoded b (user ++ colon ∷ password)

without_spaces-replicate : (n : ℕ) (text : List ℕ) → without_spaces (replicate n space ++ text) ≡ without_spaces text
without_spaces-replicate zero text = refl
without_spaces-replicate (suc n) text = without_spaces-replicate n text

-- the spaces that stand at the front
spaces_at_front : (text : List ℕ) → (n : ℕ) × (text ≡ replicate n space ++ without_spaces text)
spaces_at_front [] = (0, refl)
spaces_at_front (b ∷ text) =
    elim (eqb b space) as (λ t. eqb b space ≡ t → (n : ℕ) × (b ∷ text ≡ replicate n space ++ cond t (without_spaces text) (b ∷ text))) [
      | true ↦ λ h. let more = spaces_at_front text in
          (suc more.0, ap (λ x. x ∷ text) ((Decides-eqb b space).0 h) ∙ ap (λ rest. space ∷ rest) more.1)
      | false ↦ λ h. (0, refl)
    ] refl

-- the text of a value of the scheme
pub basic_text-scheme : (value : List ℕ) → map to_ascii_lowercase (take 5 value) ≡ codes "basic" → get_or value 5 0 ≡ space
    → basic_text value ≡ Some (without_spaces (drop 5 value))
unfolding basic_text
basic_text-scheme value scheme one =
    let a : bytes_eq (map to_ascii_lowercase (take 5 value)) (codes "basic") ≡ true = (bytes_eq-Decides _ _).1 scheme in
    let b : eqb (get_or value 5 0) space ≡ true = (Decides-eqb _ _).1 one in
    ap (λ t. cond (t && eqb (get_or value 5 0) space) (Some (without_spaces (drop 5 value))) None) a
    ∙ ap (λ t. cond t (Some (without_spaces (drop 5 value))) None) b

pub basic_text-other_scheme : (value : List ℕ) → (map to_ascii_lowercase (take 5 value) ≡ codes "basic" → ⊥) → basic_text value ≡ None
unfolding basic_text
basic_text-other_scheme value other =
    ap (λ t. cond (t && eqb (get_or value 5 0) space) (Some (without_spaces (drop 5 value))) None)
    (is_false _ (λ is. other ((bytes_eq-Decides _ _).0 is)))

pub basic_text-no_space : (value : List ℕ) → (get_or value 5 0 ≡ space → ⊥) → basic_text value ≡ None
unfolding basic_text
basic_text-no_space value other =
    ap (λ t. cond (bytes_eq (map to_ascii_lowercase (take 5 value)) (codes "basic") && t) (Some (without_spaces (drop 5 value))) None)
    (is_false _ (λ is. other ((Decides-eqb _ _).0 is)))
    ∙ ap (λ t. cond t (Some (without_spaces (drop 5 value))) None) (and_false (bytes_eq (map to_ascii_lowercase (take 5 value)) (codes "basic")))

-- the value goes on past the scheme
longer : (value : List ℕ) → get_or value 5 0 ≡ space → 5 < length value
longer value is =
    ⊎_elim (λ below. below) (λ end. absurd (zero_is_no_space (sym (get_or_past value 5 0 end) ∙ is))) (cases_lt 5 (length value))
  where
    zero_is_no_space : 0 ≡ space → ⊥
    zero_is_no_space e = omega (arith, e)

spaces_then_text : (value text : List ℕ) → get_or value 5 0 ≡ space → without_spaces (drop 5 value) ≡ text
    → (n : ℕ) × (value ≡ take 5 value ++ (replicate (suc n) space ++ text))
spaces_then_text value text is rest =
    let cut : drop 5 value ≡ space ∷ drop 6 value = drop-cons value 5 0 (longer value is) ∙ ap (λ b. b ∷ drop 6 value) is in
    let front = spaces_at_front (drop 6 value) in
    let same : without_spaces (drop 6 value) ≡ text = sym (ap without_spaces cut) ∙ rest in (
      front.0,
      sym (take-append-drop 5 value)
          ∙ ap (λ tail. take 5 value ++ tail) (cut ∙ ap (λ tail. space ∷ tail) (front.1 ∙ ap (λ tail. replicate front.0 space ++ tail) same)),
    )

spaces_of_text : (value text : List ℕ) → cond (eqb (get_or value 5 0) space) (Some (without_spaces (drop 5 value))) None ≡ Some text
    → (n : ℕ) × (value ≡ take 5 value ++ (replicate (suc n) space ++ text))
spaces_of_text value text h =
    elim (eqb (get_or value 5 0) space) as (λ b. eqb (get_or value 5 0) space ≡ b
    → cond b (Some (without_spaces (drop 5 value))) None ≡ Some text
    → (n : ℕ) × (value ≡ take 5 value ++ (replicate (suc n) space ++ text))) [
      | true ↦ λ is e. spaces_then_text value text ((Decides-eqb (get_or value 5 0) space).0 is) (ap (λ o. unwrap_or o text) e)
      | false ↦ λ is e. absurd (false≢true (ap is_some e))
    ] refl h

-- what a value of the scheme is made of
pub scheme-basic_text : (value text : List ℕ) → basic_text value ≡ Some text
    → (map to_ascii_lowercase (take 5 value) ≡ codes "basic") × ((n : ℕ) × (value ≡ take 5 value ++ (replicate (suc n) space ++ text)))
unfolding basic_text
scheme-basic_text value text h =
    elim (bytes_eq (map to_ascii_lowercase (take 5 value)) (codes "basic")) as (λ a. bytes_eq (map to_ascii_lowercase (take 5 value)) (codes "basic") ≡ a
    → cond (a && eqb (get_or value 5 0) space) (Some (without_spaces (drop 5 value))) None ≡ Some text
    → (map to_ascii_lowercase (take 5 value) ≡ codes "basic") × ((n : ℕ) × (value ≡ take 5 value ++ (replicate (suc n) space ++ text)))) [
      | true ↦ λ is e. ((bytes_eq-Decides _ _).0 is, spaces_of_text value text e)
      | false ↦ λ is e. absurd (false≢true (ap is_some e))
    ] refl h

-- ---- the pair of a value

-- a value that the standard calls one has its pair
pub basic_pair-of_value : CutsFirst → (value : List ℕ) (pair : Credentials) → IsBasicPair value pair → basic_pair value ≡ Some pair
unfolding basic_pair
basic_pair-of_value first value pair is =
    let bytes : List ℕ = pair.user ++ colon ∷ pair.password in
    let text : List ℕ = encode_of standard bytes in
    let rest : List ℕ = replicate (suc is.more_spaces) space ++ text in
    let five : length is.scheme ≡ 5 = sym (length-map is.scheme to_ascii_lowercase) ∙ ap length is.is_basic in
    let front : take 5 value ≡ is.scheme = ap (take 5) is.is_value ∙ ap (λ n. take n (is.scheme ++ rest)) (sym five) ∙ take-append_seam is.scheme rest in
    let tail : drop 5 value ≡ rest = ap (drop 5) is.is_value ∙ ap (λ n. drop n (is.scheme ++ rest)) (sym five) ∙ drop-append_seam is.scheme rest in
    let one : get_or value 5 0 ≡ space = ap (λ v. get_or v 5 0) is.is_value ∙ ap (λ n. get_or (is.scheme ++ rest) n 0) (sym five)
    ∙ get_or-append_seam is.scheme space (replicate is.more_spaces space ++ text) 0 in
    let found : basic_text value ≡ Some text
    = basic_text-scheme value (ap (map to_ascii_lowercase) front ∙ is.is_basic) one
    ∙ ap Some (ap without_spaces tail ∙ without_spaces-replicate (suc is.more_spaces) text ∙ without_spaces-credentials pair.user pair.password) in
    let back : decoded_of standard text ≡ Some bytes = decoded_of-ok standard text bytes (decode_of-encode_of standard bytes refl is.is_bytes) in
    ap (option_and_then (λ t. option_and_then credentials_of (decoded_of standard t))) found
    ∙ ap (option_and_then credentials_of) back ∙ credentials_of-user first pair.user pair.password is.no_colon

-- a pair that was read is that of a value by the standard
pub IsBasicPair-of_text : CutsFirst → (value text bytes : List ℕ) (pair : Credentials) → basic_text value ≡ Some text
    → text ≡ encode_of standard bytes → IsBytes bytes → credentials_of bytes ≡ Some pair → IsBasicPair value pair
IsBasicPair-of_text first value text bytes pair scheme encoded are_bytes cut =
    let parts = scheme-basic_text value text scheme in
    let whole = credentials_of-text first bytes pair cut in
    record {
      scheme = take 5 value;
      more_spaces = parts.1.0;
      is_basic = parts.0;
      is_value = parts.1.1 ∙ ap (λ t. take 5 value ++ (replicate (suc parts.1.0) space ++ t)) (encoded ∙ ap (encode_of standard) whole.0);
      is_bytes = subst IsBytes whole.0 are_bytes;
      no_colon = whole.1;
    }

pub basic_pair-no_text : (value : List ℕ) → basic_text value ≡ None → basic_pair value ≡ None
unfolding basic_pair
basic_pair-no_text value h = ap (option_and_then (λ t. option_and_then credentials_of (decoded_of standard t))) h

pub basic_pair-text : (value text : List ℕ) (bytes : Option (List ℕ)) → basic_text value ≡ Some text → decoded_of standard text ≡ bytes
    → basic_pair value ≡ option_and_then credentials_of bytes
unfolding basic_pair
basic_pair-text value text bytes h d =
    ap (option_and_then (λ t. option_and_then credentials_of (decoded_of standard t))) h ∙ ap (option_and_then credentials_of) d

-- where nothing is found, no pair is that of the value
pub none-exact : CutsFirst → (value : List ℕ) → basic_pair value ≡ None → (pair : Credentials)
    → (None ≡ Some pair → IsBasicPair value pair) × (IsBasicPair value pair → None ≡ Some pair)
none-exact first value none pair = (λ e. absurd (false≢true (ap is_some e)), λ is. sym none ∙ basic_pair-of_value first value pair is)

-- what is found is the pair of the value
pub found-exact : CutsFirst → (value text bytes : List ℕ) (found : Option Credentials) → basic_text value ≡ Some text
    → text ≡ encode_of standard bytes → IsBytes bytes → decoded_of standard text ≡ Some bytes → found ≡ credentials_of bytes → (pair : Credentials)
    → (found ≡ Some pair → IsBasicPair value pair) × (IsBasicPair value pair → found ≡ Some pair)
found-exact first value text bytes found scheme encoded are_bytes decoded cut pair = (
  λ e. IsBasicPair-of_text first value text bytes pair scheme encoded are_bytes (sym cut ∙ e),
  λ is. cut ∙ sym (basic_pair-text value text (Some bytes) scheme decoded) ∙ basic_pair-of_value first value pair is,
)
