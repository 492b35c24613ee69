-- keys: the tests of numbers and of names, and what is found where a row has been put into its place
use Rattle.std.proofs.Common.{◌≡◌, ◌<◌, ◌==◌, ℕ, Bool, true, false, Some, List, [], ◌∷◌, refl, ap, sym, ◌∙◌, arith}
use Rattle.std.specs.Prelude.{find, if◌then◌else◌}
use Rattle.std.specs.Cmp.{IsTotalOrder, both_ways}
use Rattle.std.specs.Cmp.Lexicographic.{slice_cmp}
use Rattle.std.specs.Ordering.{is_eq, nat_cmp, match_ordering, ordering_reverse}
use Rattle.std.specs.declared.cmp.Ordering.{Ordering}
use Rattle.std.specs.declared.cmp.Ordering.TheVariants.{Less, Equal, Greater}
use Rattle.std.specs.Str.{bytes_eq}
use Rattle.std.proofs.lemmas.Bool.{eqb-true}
use Rattle.std.proofs.lemmas.Bool.Decides.{nat_tests}
use Rattle.std.proofs.lemmas.Map.Text.{is_eq-slice_cmp}
use Rattle.std.proofs.lemmas.Slice.Eq.{bytes_eq-Decides}
use Rattle.radio_tables.specs.Lists.{placed}
use Rattle.radio_tables.proofs.FindLaws.{find_here, find_later}

-- two numbers are one, or the test tells them apart
pub by_number : {A : Type 0} (him id : ℕ) → (him ≡ id → A) → ((him == id) ≡ false → A) → A
by_number {A = A} him id same other = by_test (him == id) refl where
  by_test : (b : Bool) → (him == id) ≡ b → A
  by_test true e = same (eqb-true him id e)
  by_test false e = other e

-- and so two names
pub by_name : {A : Type 0} (a b : List ℕ) → (a ≡ b → A) → (bytes_eq a b ≡ false → A) → A
by_name {A = A} a b same other = by_test (bytes_eq a b) refl where
  by_test : (t : Bool) → bytes_eq a b ≡ t → A
  by_test true e = same ((bytes_eq-Decides a b).0 e)
  by_test false e = other e

-- the law of a row's key, for keys that are numbers and for those that are names
pub number_is : (k n : ℕ) → (n == k) ≡ is_eq (nat_cmp k n)
number_is k n = grind (arith, nat_tests)

pub name_is : (k n : List ℕ) → bytes_eq n k ≡ is_eq (slice_cmp nat_cmp k n)
name_is k n = bytes_eq_back n k ∙ sym (is_eq-slice_cmp k n) where
  bytes_eq_back : (a b : List ℕ) → bytes_eq a b ≡ bytes_eq b a
  bytes_eq_back a b =
      both_ways (bytes_eq a b) (bytes_eq b a)
      (λ e. (bytes_eq-Decides b a).1 (sym ((bytes_eq-Decides a b).0 e)))
      (λ e. (bytes_eq-Decides a b).1 (sym ((bytes_eq-Decides b a).0 e)))

-- a lower number comes before
pub less_number : (a b : ℕ) → a < b → nat_cmp a b ≡ Less
less_number a b below = grind (arith, nat_tests)

-- where a row was put into its place, it is found by its key, and all others as before
module _ {K X : Type 0} (cmp : K → K → Ordering) (total : IsTotalOrder cmp) (key : X → K) (has_key : K → X → Bool)
    (has_key_is : (k : K) (x : X) → has_key k x ≡ is_eq (cmp k (key x))) (k : K) (new : X) where
  abbrev pub by_key : X → X → Ordering
  by_key a b = cmp (key a) (key b)

  abbrev pub FindsPlaced : List X → Type 0
  FindsPlaced xs = find (has_key k) (placed by_key new xs) ≡ (if has_key k new then Some new else find (has_key k) xs)

  -- an equal row has the same keys
  same_keys : (x : X) → cmp (key new) (key x) ≡ Equal → has_key k x ≡ has_key k new
  same_keys x e =
      let alike : cmp k (key x) ≡ cmp k (key new) = total.antisymm k (key x) ∙ ap ordering_reverse (sym (total.congr (key new) (key x) k e))
      ∙ sym (total.antisymm k (key new)) in
      has_key_is k x ∙ ap is_eq alike ∙ sym (has_key_is k new)

  in_place_of : (x : X) (xs : List X) (b : Bool) → has_key k new ≡ b → has_key k x ≡ has_key k new
      → find (has_key k) (new ∷ xs) ≡ (if has_key k new then Some new else find (has_key k) (x ∷ xs))
  in_place_of x xs true e same = rw e refl
  in_place_of x xs false e same = find_later (has_key k) new xs e ∙ sym (rw e (find_later (has_key k) x xs (same ∙ e)))

  -- a row of the key before a greater one is not that one
  is_key : (o : Ordering) → is_eq o ≡ true → o ≡ Equal
  is_key Less e = cc
  is_key Equal e = refl
  is_key Greater e = cc

  not_new : (x : X) → cmp (key new) (key x) ≡ Greater → has_key k x ≡ true → has_key k new ≡ false
  not_new x above his =
      let same : cmp k (key x) ≡ Equal = is_key (cmp k (key x)) (sym (has_key_is k x) ∙ his) in
      has_key_is k new ∙ ap is_eq (total.congr k (key x) (key new) same ∙ total.antisymm (key x) (key new) ∙ ap ordering_reverse above)

  behind : (x : X) (xs : List X) (b : Bool) → has_key k x ≡ b → (has_key k x ≡ true → has_key k new ≡ false) → FindsPlaced xs
      → find (has_key k) (x ∷ placed by_key new xs) ≡ (if has_key k new then Some new else find (has_key k) (x ∷ xs))
  behind x xs true e apart later = find_here (has_key k) x (placed by_key new xs) e ∙ sym (rw (apart e) (find_here (has_key k) x xs e))
  behind x xs false e apart later =
      find_later (has_key k) x (placed by_key new xs) e ∙ later ∙ ap (λ found. if has_key k new then Some new else found) (sym (find_later (has_key k) x xs e))

  placed_at : (x : X) (xs : List X) (o : Ordering) → cmp (key new) (key x) ≡ o → FindsPlaced xs
      → find (has_key k) (match_ordering o (new ∷ x ∷ xs) (new ∷ xs) (x ∷ placed by_key new xs))
      ≡ (if has_key k new then Some new else find (has_key k) (x ∷ xs))
  placed_at x xs Less o later = refl
  placed_at x xs Equal o later = in_place_of x xs (has_key k new) refl (same_keys x o)
  placed_at x xs Greater o later = behind x xs (has_key k x) refl (not_new x o) later

  pub find_placed : (xs : List X) → FindsPlaced xs
  find_placed [] = refl
  find_placed (x ∷ xs) = placed_at x xs (cmp (key new) (key x)) refl (find_placed xs)
