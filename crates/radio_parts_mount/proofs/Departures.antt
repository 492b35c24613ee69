-- listeners who are detached one after another
use Rattle.std.proofs.Common.{◌≡◌, ◌⊎◌, inl, inr, ◌==◌, Bool, true, false, ℕ, List, [], ◌∷◌, refl, ap, sym, ◌∙◌, arith}
use Rattle.radio_parts_mount.proofs.Words.{nat_tests, filter, not, if◌then◌else◌, Each, Each_each, Each_kept, Attachment, is_attached, without_all}

-- one of the rows has this number
abbrev IsIn : ℕ → List Attachment → Type 0
IsIn id [] = ⊥
IsIn id (row ∷ rows) = (row.id ≡ id) ⊎ IsIn id rows

same_by_test : (a b : ℕ) → (a == b) ≡ true → a ≡ b
same_by_test a b e = grind (arith, nat_tests, e)

test_by_same : (a b : ℕ) → a ≡ b → (a == b) ≡ true
test_by_same a b e = grind (arith, nat_tests, e)

not_both : (b : Bool) → b ≡ true → b ≡ false → ⊥
not_both true is isnt = cc
not_both false is isnt = cc

not_false : (b : Bool) → not b ≡ false → b ≡ true
not_false true e = refl
not_false false e = cc

not_true : (b : Bool) → not b ≡ true → b ≡ false
not_true true e = cc
not_true false e = refl

-- what a second test leaves out, the first one may leave out before
module _ (q r : Attachment → Bool) (within : (row : Attachment) → r row ≡ false → q row ≡ false) where
  narrowed_true : (row : Attachment) (one other : List Attachment) (b : Bool) → one ≡ other
      → (if b then row ∷ one else one) ≡ (if b then row ∷ other else other)
  narrowed_true row one other true same = ap (λ rows. row ∷ rows) same
  narrowed_true row one other false same = same

  narrowed_at : (row : Attachment) (rows : List Attachment) (b : Bool) → r row ≡ b → filter q (filter r rows) ≡ filter q rows
      → filter q (if b then row ∷ filter r rows else filter r rows) ≡ filter q (row ∷ rows)
  narrowed_at row rows true e later = narrowed_true row (filter q (filter r rows)) (filter q rows) (q row) later
  narrowed_at row rows false e later = later ∙ rw (within row e) refl

  narrowed : (rows : List Attachment) → filter q (filter r rows) ≡ filter q rows
  narrowed [] = refl
  narrowed (row ∷ rows) = narrowed_at row rows (r row) refl (narrowed rows)

module _ (leaves : ℕ → Bool) where
  abbrev goes : Attachment → Bool
  goes row = leaves row.id

  abbrev stays : Attachment → Bool
  stays row = not (leaves row.id)

  abbrev Covered : List Attachment → Attachment → Type 0
  Covered rows row = goes row ≡ true → IsIn row.id rows

  all_stay_at : (row : Attachment) (rows : List Attachment) (b : Bool) → goes row ≡ b → Covered [] row → filter stays rows ≡ rows
      → (if not b then row ∷ filter stays rows else filter stays rows) ≡ row ∷ rows
  all_stay_at row rows true is covered later = absurd (covered is)
  all_stay_at row rows false is covered later = ap (λ others. row ∷ others) later

  all_stay : (rows : List Attachment) → Each (Covered []) rows → filter stays rows ≡ rows
  all_stay [] none = refl
  all_stay (row ∷ rows) none = all_stay_at row rows (goes row) refl none.0 (all_stay rows none.1)

  rest_covered : (gone : Attachment) (rows : List Attachment) (row : Attachment) → Covered (gone ∷ rows) row → not (is_attached gone.id row) ≡ true → Covered rows row
  rest_covered gone rows row covered other is = by_place (covered is) where
    by_place : IsIn row.id (gone ∷ rows) → IsIn row.id rows
    by_place (inl same) =
        absurd (not_both (is_attached gone.id row) (test_by_same row.id gone.id (sym same)) (not_true (is_attached gone.id row) other))
    by_place (inr later) = later

  others_covered : (one : Attachment) (rows : List Attachment) (row : Attachment) → goes one ≡ false → Covered (one ∷ rows) row → Covered rows row
  others_covered one rows row stays_here covered is = by_place (covered is) where
    by_place : IsIn row.id (one ∷ rows) → IsIn row.id rows
    by_place (inl same) = absurd (not_both (leaves row.id) is (ap leaves (sym same) ∙ stays_here))
    by_place (inr later) = later

  gone_at : (row : Attachment) (rows : List Attachment) (b : Bool) → goes row ≡ b
      → ((others : List Attachment) → Each (Covered rows) others → without_all (filter goes rows) others ≡ filter stays others)
      → (others : List Attachment) → Each (Covered (row ∷ rows)) others
      → without_all (if b then row ∷ filter goes rows else filter goes rows) others ≡ filter stays others
  gone_at row rows true is later others covered =
      later (filter (λ other. not (is_attached row.id other)) others)
      (Each_kept (Covered (row ∷ rows)) (Covered rows) (λ other. not (is_attached row.id other)) (rest_covered row rows) others covered)
      ∙ narrowed stays (λ other. not (is_attached row.id other))
      (λ other e. ap (λ n. not (leaves n)) (same_by_test other.id row.id (not_false (is_attached row.id other) e)) ∙ ap not is) others
  gone_at row rows false is later others covered =
      later others (Each_each (Covered (row ∷ rows)) (Covered rows) (λ other c. others_covered row rows other is c) others covered)

  gone : (rows others : List Attachment) → Each (Covered rows) others → without_all (filter goes rows) others ≡ filter stays others
  gone [] others covered = sym (all_stay others covered)
  gone (row ∷ rows) others covered = gone_at row rows (goes row) refl (gone rows) others covered

  all_covered : (rows : List Attachment) → Each (Covered rows) rows
  all_covered [] = tt
  all_covered (row ∷ rows) = (
    λ is. inl refl,
    Each_each (Covered rows) (Covered (row ∷ rows)) (λ other covered is. inr (covered is)) rows (all_covered rows),
  )

  -- without each of those who leave, those are left who stay
  pub left_are_those_who_stay : (rows : List Attachment) → without_all (filter goes rows) rows ≡ filter stays rows
  left_are_those_who_stay rows = gone rows rows (all_covered rows)
