-- Where the lines that are added stand.
use Rattle.std.proofs.Common.{◌≡◌, ◌+◌, ◌<◌, ℕ, ◌==◌, inl, inr, Bool, true, false, ltb, List, [], ◌∷◌, ◌++◌, take, drop, length, Some, None, refl, sym, ap, subst, ◌∙◌, arith}
use Rattle.std.proofs.Common.{append-nil}
use Rattle.std.specs.Prelude.{if◌then◌else◌, get_or, position, suc, zero}
use Rattle.std.specs.List.{position_or_len}
use Rattle.std.proofs.lemmas.Bool.{cases_lt, lt-ltb, cond-true}
use Rattle.std.proofs.lemmas.List.{take_all, drop_all}
use Rattle.std.proofs.lemmas.List.Quantifiers.{position-Some}
use Rattle.std.proofs.lemmas.List.Sums.{fails_before_first}
use Rattle.radio_heads.specs.Additions.{behind_first_line}

-- no lines change nothing
pub behind_none : (text : List ℕ) → behind_first_line [] text ≡ text
behind_none [] = refl
behind_none (byte ∷ text) = by_byte (byte == 10) (behind_none text) where
  by_byte : (b : Bool) → behind_first_line [] text ≡ text → (if b then byte ∷ [] ++ text else byte ∷ behind_first_line [] text) ≡ byte ∷ text
  by_byte true same = refl
  by_byte false same = ap (λ (xs : List ℕ). byte ∷ xs) same

module _ (lines : List ℕ) where
  -- behind the first byte that ends a line
  behind_at : (text : List ℕ) (i : ℕ) → i < length text → (get_or text i 0 == 10) ≡ true
      → ((k : ℕ) → k < i → (get_or text k 0 == 10) ≡ false)
      → behind_first_line lines text ≡ take (suc i) text ++ lines ++ drop (suc i) text
  behind_at [] i below here before = absurd (omega arith)
  behind_at (byte ∷ text) zero below here before =
      ap (λ (b : Bool). if b then byte ∷ lines ++ text else byte ∷ behind_first_line lines text) here
  behind_at (byte ∷ text) (suc i) below here before =
      ap (λ (b : Bool). if b then byte ∷ lines ++ text else byte ∷ behind_first_line lines text) (before 0 (omega arith))
      ∙ ap (λ (xs : List ℕ). byte ∷ xs) (behind_at text i (omega arith) here (λ k lt. before (suc k) (omega arith)))

  -- behind a text that ends no line
  behind_all : (text : List ℕ) → ((k : ℕ) → k < length text → (get_or text k 0 == 10) ≡ false) → behind_first_line lines text ≡ text ++ lines
  behind_all [] none = refl
  behind_all (byte ∷ text) none =
      ap (λ (b : Bool). if b then byte ∷ lines ++ text else byte ∷ behind_first_line lines text) (none 0 (omega arith))
      ∙ ap (λ (xs : List ℕ). byte ∷ xs) (behind_all text (λ k lt. none (suc k) (omega arith)))

  pub behind_found : (text : List ℕ) (i : ℕ) → position (λ byte. byte == 10) text ≡ Some i
      → behind_first_line lines text ≡ take (i + 1) text ++ lines ++ drop (i + 1) text
  behind_found text i found =
      let there = position-Some (λ byte. byte == 10) text i 0 found in
      let next : suc i ≡ i + 1 = omega arith in
      subst (λ (n : ℕ). behind_first_line lines text ≡ take n text ++ lines ++ drop n text) next (behind_at text i there.0 there.1 there.2)

  no_feed : (text : List ℕ) → position (λ byte. byte == 10) text ≡ None → (k : ℕ) → k < length text → (get_or text k 0 == 10) ≡ false
  no_feed text e k h = elim (cases_lt (position_or_len (λ byte. byte == 10) text) (length text)) [
    | inl lt ↦ (let found = cond-true (ltb (position_or_len (λ byte. byte == 10) text) (length text)) (Some (position_or_len (λ byte. byte == 10) text)) None
        (lt-ltb (position_or_len (λ byte. byte == 10) text) (length text) lt) in cc (found, e))
    | inr le ↦ fails_before_first (λ byte. byte == 10) text k 0 (omega arith)
  ]

  pub behind_missing : (text : List ℕ) → position (λ byte. byte == 10) text ≡ None
      → behind_first_line lines text ≡ take (length text) text ++ lines ++ drop (length text) text
  behind_missing text none =
      behind_all text (no_feed text none)
      ∙ ap (λ (xs : List ℕ). xs ++ lines) (sym (take_all (length text) text (omega arith)))
      ∙ sym (append-nil (take (length text) text ++ lines))
      ∙ ap (λ (xs : List ℕ). take (length text) text ++ lines ++ xs) (sym (drop_all (length text) text (omega arith)))
