-- lists of numbers that rise, and the numbers of a list's elements
use Rattle.std.proofs.Common.{◌≡◌, Bool, true, false, ℕ, ◌+◌, ◌<◌, ◌==◌, ◌||◌, not, Some, None, is_some, List, [], ◌∷◌, length, refl, ap, sym, subst}
use Rattle.std.proofs.Common.{◌∙◌, arith}
use Rattle.radio_parts_mount.proofs.Words.{find, filter, map, if◌then◌else◌, list_any, nat_cmp, match_ordering, Ordering, Less, Equal, Greater, nat_tests, update_first, placed, Each, Each_each, Each_kept, Each_placed}
use Rattle.radio_parts_mount.proofs.Words.{Each_mapped, passes_none}

abbrev pub IsRising : List ℕ → Type 0
IsRising [] = Unit {0}
IsRising (x ∷ xs) = Each (λ y. x < y) xs × IsRising xs

-- the number is one of these
abbrev pub has : ℕ → List ℕ → Bool
has id ids = list_any (λ n. n == id) ids

-- it is none of these
abbrev pub IsFree : ℕ → List ℕ → Type 0
IsFree id ids = Each (λ n. (n == id) ≡ false) ids

abbrev pub without : ℕ → List ℕ → List ℕ
without id ids = filter (λ n. not (n == id)) ids

less_is : (a b : ℕ) → nat_cmp a b ≡ Less → a < b
less_is a b e = grind (arith, nat_tests)

equal_is : (a b : ℕ) → nat_cmp a b ≡ Equal → a ≡ b
equal_is a b e = grind (arith, nat_tests)

greater_is : (a b : ℕ) → nat_cmp a b ≡ Greater → b < a
greater_is a b e = grind (arith, nat_tests)

-- a number is put into its place
module _ (new : ℕ) where
  placed_rising_at : (x : ℕ) (xs : List ℕ) (o : Ordering) → nat_cmp new x ≡ o → IsRising (x ∷ xs) → IsRising (placed nat_cmp new xs)
      → IsRising (match_ordering o (new ∷ x ∷ xs) (new ∷ xs) (x ∷ placed nat_cmp new xs))
  placed_rising_at x xs Less e rising later =
      let below = less_is new x e in ((below, Each_each (λ y. x < y) (λ y. new < y) (λ y h. omega (arith, below, h)) xs rising.0), rising)
  placed_rising_at x xs Equal e rising later = subst (λ n. IsRising (n ∷ xs)) (sym (equal_is new x e)) rising
  placed_rising_at x xs Greater e rising later = (Each_placed (λ y. x < y) nat_cmp new xs (greater_is new x e) rising.0, later)

  pub placed_rising : (xs : List ℕ) → IsRising xs → IsRising (placed nat_cmp new xs)
  placed_rising [] rising = (tt, tt)
  placed_rising (x ∷ xs) rising = placed_rising_at x xs (nat_cmp new x) refl rising (placed_rising xs rising.1)

  placed_length_at : (x : ℕ) (xs : List ℕ) (o : Ordering) → nat_cmp new x ≡ o → (x == new) ≡ false → length (placed nat_cmp new xs) ≡ length xs + 1
      → length (match_ordering o (new ∷ x ∷ xs) (new ∷ xs) (x ∷ placed nat_cmp new xs)) ≡ length xs + 1 + 1
  placed_length_at x xs Less e apart later = omega arith
  placed_length_at x xs Equal e apart later = let same = equal_is new x e in grind (arith, nat_tests)
  placed_length_at x xs Greater e apart later = omega (arith, later)

  pub placed_length : (xs : List ℕ) → IsFree new xs → length (placed nat_cmp new xs) ≡ length xs + 1
  placed_length [] free = refl
  placed_length (x ∷ xs) free = let at = placed_length_at x xs (nat_cmp new x) refl free.0 (placed_length xs free.1) in omega (arith, at)

  pub placed_free : (id : ℕ) (xs : List ℕ) → (new == id) ≡ false → IsFree id xs → IsFree id (placed nat_cmp new xs)
  placed_free id xs apart free = Each_placed (λ n. (n == id) ≡ false) nat_cmp new xs apart free

-- a number is taken away
module _ (id : ℕ) where
  pub kept_rising : (xs : List ℕ) → IsRising xs → IsRising (without id xs)
  kept_rising [] rising = tt
  kept_rising (x ∷ xs) rising = kept_at (x == id) (kept_rising xs rising.1) where
    kept_at : (b : Bool) → IsRising (without id xs) → IsRising (if not b then x ∷ without id xs else without id xs)
    kept_at true later = later
    kept_at false later = (Each_kept (λ y. x < y) (λ y. x < y) (λ n. not (n == id)) (λ y below stays. below) xs rising.0, later)

  all_stay : (xs : List ℕ) → IsFree id xs → length (without id xs) ≡ length xs
  all_stay [] free = refl
  all_stay (x ∷ xs) free = let later = all_stay xs free.1 in rw free.0 (omega (arith, later))

  one_less_at : (x : ℕ) (xs : List ℕ) (b : Bool) → (x == id) ≡ b → Each (λ y. x < y) xs → length (without id xs) + (if has id xs then 1 else 0) ≡ length xs
      → length (if not b then x ∷ without id xs else without id xs) + (if b || has id xs then 1 else 0) ≡ length xs + 1
  one_less_at x xs true e above later =
      let free = all_stay xs (Each_each (λ y. x < y) (λ y. (y == id) ≡ false) (λ y h. grind (arith, nat_tests)) xs above) in omega (arith, free)
  one_less_at x xs false e above later = omega (arith, later)

  pub one_less : (xs : List ℕ) → IsRising xs → length (without id xs) + (if has id xs then 1 else 0) ≡ length xs
  one_less [] rising = refl
  one_less (x ∷ xs) rising = let at = one_less_at x xs (x == id) refl rising.0 (one_less xs rising.1) in omega (arith, at)

  pub kept_free : (him : ℕ) (xs : List ℕ) → IsFree him xs → IsFree him (without id xs)
  kept_free him xs free = Each_kept (λ n. (n == him) ≡ false) (λ n. (n == him) ≡ false) (λ n. not (n == id)) (λ n is stays. is) xs free

  pub taken_free : (xs : List ℕ) → IsFree id (without id xs)
  taken_free [] = tt
  taken_free (x ∷ xs) = taken_at (x == id) refl (taken_free xs) where
    taken_at : (b : Bool) → (x == id) ≡ b → IsFree id (without id xs) → IsFree id (if not b then x ∷ without id xs else without id xs)
    taken_at true e later = later
    taken_at false e later = (e, later)

-- the numbers of elements, after each change of a list
module _ {X : Type 0} (number : X → ℕ) where
  pub numbers_updated : (p : X → Bool) (f : X → X) → ((x : X) → number (f x) ≡ number x) → (xs : List X)
      → map number (update_first p f xs) ≡ map number xs
  numbers_updated p f same [] = refl
  numbers_updated p f same (x ∷ xs) = updated_at (p x) (numbers_updated p f same xs) where
    updated_at : (b : Bool) → map number (update_first p f xs) ≡ map number xs
        → map number (if b then f x ∷ xs else x ∷ update_first p f xs) ≡ number x ∷ map number xs
    updated_at true later = ap (λ n. n ∷ map number xs) (same x)
    updated_at false later = ap (λ ns. number x ∷ ns) later

  pub numbers_mapped : (f : X → X) → ((x : X) → number (f x) ≡ number x) → (xs : List X) → map number (map f xs) ≡ map number xs
  numbers_mapped f same [] = refl
  numbers_mapped f same (x ∷ xs) = ap (λ n. n ∷ map number (map f xs)) (same x) ∙ ap (λ ns. number x ∷ ns) (numbers_mapped f same xs)

  pub numbers_placed : (new : X) (xs : List X)
      → map number (placed (λ a b. nat_cmp (number a) (number b)) new xs) ≡ placed nat_cmp (number new) (map number xs)
  numbers_placed new [] = refl
  numbers_placed new (x ∷ xs) = placed_at (nat_cmp (number new) (number x)) (numbers_placed new xs) where
    placed_at : (o : Ordering) → map number (placed (λ a b. nat_cmp (number a) (number b)) new xs) ≡ placed nat_cmp (number new) (map number xs)
        → map number (match_ordering o (new ∷ x ∷ xs) (new ∷ xs) (x ∷ placed (λ a b. nat_cmp (number a) (number b)) new xs))
        ≡ match_ordering o (number new ∷ number x ∷ map number xs) (number new ∷ map number xs) (number x ∷ placed nat_cmp (number new) (map number xs))
    placed_at Less later = refl
    placed_at Equal later = refl
    placed_at Greater later = ap (λ ns. number x ∷ ns) later

  pub numbers_without : (id : ℕ) (xs : List X) → map number (filter (λ x. not (number x == id)) xs) ≡ without id (map number xs)
  numbers_without id [] = refl
  numbers_without id (x ∷ xs) = without_at (number x == id) (numbers_without id xs) where
    without_at : (b : Bool) → map number (filter (λ y. not (number y == id)) xs) ≡ without id (map number xs)
        → map number (if not b then x ∷ filter (λ y. not (number y == id)) xs else filter (λ y. not (number y == id)) xs)
        ≡ (if not b then number x ∷ without id (map number xs) else without id (map number xs))
    without_at true later = later
    without_at false later = ap (λ ns. number x ∷ ns) later

  pub number_found : (id : ℕ) (xs : List X) → is_some (find (λ x. number x == id) xs) ≡ has id (map number xs)
  number_found id [] = refl
  number_found id (x ∷ xs) = found_at (number x == id) (number_found id xs) where
    found_at : (b : Bool) → is_some (find (λ y. number y == id) xs) ≡ has id (map number xs)
        → is_some (if b then Some x else find (λ y. number y == id) xs) ≡ (b || has id (map number xs))
    found_at true later = refl
    found_at false later = later

  pub number_free : (id : ℕ) (xs : List X) → find (λ x. number x == id) xs ≡ None → IsFree id (map number xs)
  number_free id xs none =
      Each_mapped (λ x. (number x == id) ≡ false) (λ n. (n == id) ≡ false) number (λ x e. e) xs (passes_none (λ x. number x == id) xs none)
