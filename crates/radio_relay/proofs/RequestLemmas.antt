-- Names of mounts as paths.
use Rattle.std.proofs.Common.{◌≡◌, ℕ, zero, suc, ◌<◌, ◌≤◌, Bool, true, false, not, List, [], ◌∷◌, ◌++◌, if◌then◌else◌, ap, sym, ◌∙◌, refl, arith, ⊎_elim}
use Rattle.std.proofs.Common.{eqb, leb, ltb}
use Rattle.radio_relay.proofs.Words.{cases_lt, false≢true, lt-ltb, le-ltb, le-leb, lt-leb, ne_eqb, flat_map, AsciiSet, percent_encode_byte, encode_byte, percent_encode}
use Rattle.percent_encoding.specs.AsciiSet.{contains, should_percent_encode}
use Rattle.radio_relay.specs.Request.{is_path_byte, path_byte, path_text}

-- every number below n passes
abbrev pub all_below : ℕ → (ℕ → Bool) → Bool
all_below zero passes = true
all_below (suc n) passes = if passes n then all_below n passes else false

passes_at : (n : ℕ) (passes : ℕ → Bool) (b : ℕ) (t : Bool) → passes n ≡ t → (if t then all_below n passes else false) ≡ true → b < suc n
    → (all_below n passes ≡ true → b < n → passes b ≡ true) → passes b ≡ true
passes_at n passes b false is all low below = absurd (false≢true all)
passes_at n passes b true is all low below =
    ⊎_elim (λ (less : b < n). below all less) (λ (same : n ≤ b). let e : b ≡ n = omega arith in ap passes e ∙ is) (cases_lt b n)

passes_below : (n : ℕ) (passes : ℕ → Bool) (b : ℕ) → all_below n passes ≡ true → b < n → passes b ≡ true
passes_below zero passes b all low = absurd (omega arith)
passes_below (suc n) passes b all low = passes_at n passes b (passes n) refl all low (passes_below n passes b)

-- the set has the byte exactly if a path does not
abbrev pub agrees : AsciiSet → ℕ → Bool
agrees set b = if contains set b then not (is_path_byte b) else is_path_byte b

choose : (t u : Bool) (x y : List ℕ) → (if t then not u else u) ≡ true → (if t then x else y) ≡ (if u then y else x)
choose true true x y h = absurd (false≢true h)
choose true false x y h = refl
choose false true x y h = refl
choose false false x y h = absurd (false≢true h)

-- no byte outside ASCII is written as itself in a path
no_path_byte : (b : ℕ) → 128 ≤ b → is_path_byte b ≡ false
no_path_byte b high =
    let low_0 : leb 48 b ≡ true = le-leb 48 b (omega arith) in
    let low_1 : leb 65 b ≡ true = le-leb 65 b (omega arith) in
    let low_2 : leb 97 b ≡ true = le-leb 97 b (omega arith) in
    let high_0 : leb b 57 ≡ false = lt-leb b 57 (omega arith) in
    let high_1 : leb b 90 ≡ false = lt-leb b 90 (omega arith) in
    let high_2 : leb b 122 ≡ false = lt-leb b 122 (omega arith) in
    let dash : eqb b 45 ≡ false = ne_eqb b 45 (λ e. omega arith) in
    let dot : eqb b 46 ≡ false = ne_eqb b 46 (λ e. omega arith) in
    let low_line : eqb b 95 ≡ false = ne_eqb b 95 (λ e. omega arith) in
    let tilde : eqb b 126 ≡ false = ne_eqb b 126 (λ e. omega arith) in
    let slash : eqb b 47 ≡ false = ne_eqb b 47 (λ e. omega arith) in
    rw (low_0, high_0, low_1, high_1, low_2, high_2, dash, dot, low_line, tilde, slash) refl

module _ (set : AsciiSet) (agree : all_below 128 (agrees set) ≡ true) where
  ascii_byte : (b : ℕ) → b < 128 → encode_byte set b ≡ path_byte b
  unfolding should_percent_encode
  ascii_byte b low =
      let is : ltb b 128 ≡ true = lt-ltb b 128 low in
      rw is (choose (contains set b) (is_path_byte b) (percent_encode_byte b) (b ∷ []) (passes_below 128 (agrees set) b agree low))

  other_byte : (b : ℕ) → 128 ≤ b → encode_byte set b ≡ path_byte b
  unfolding should_percent_encode
  other_byte b high =
      let is : ltb b 128 ≡ false = le-ltb b 128 high in
      rw is (ap (λ (t : Bool). if t then b ∷ [] else percent_encode_byte b) (sym (no_path_byte b high)))

  one_byte : (b : ℕ) → encode_byte set b ≡ path_byte b
  one_byte b = ⊎_elim (ascii_byte b) (other_byte b) (cases_lt b 128)

  pub escaped_is_path : (bytes : List ℕ) → percent_encode set bytes ≡ path_text bytes
  unfolding percent_encode path_text
  escaped_is_path [] = refl
  escaped_is_path (b ∷ bytes) =
      ap (λ (xs : List ℕ). xs ++ flat_map (encode_byte set) bytes) (one_byte b) ∙ ap (λ (xs : List ℕ). path_byte b ++ xs) (escaped_is_path bytes)
