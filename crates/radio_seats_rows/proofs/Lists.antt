-- counts of a list after a change, and lists whose elements are shown as others
use Rattle.std.proofs.Common.{◌≡◌, Bool, true, false, ℕ, ◌+◌, ◌<◌, ◌≤◌, ◌==◌, ◌||◌, Option, Some, None, List, [], ◌∷◌, length, not, refl, ap, sym, ◌∙◌, arith}
use Rattle.std.specs.Prelude.{◌&&◌, find, filter, map, if◌then◌else◌}
use Rattle.std.specs.List.{list_any, AllByRecursion}
use Rattle.std.specs.List.Sorted.{IsStrictlySortedBy}
use Rattle.std.specs.Option.{option_map}
use Rattle.std.specs.Ordering.{nat_cmp, match_ordering}
use Rattle.std.specs.declared.cmp.Ordering.{Ordering}
use Rattle.std.specs.declared.cmp.Ordering.TheVariants.{Less, Equal, Greater}
use Rattle.std.proofs.lemmas.Bool.Decides.{nat_tests}
use Rattle.std.proofs.lemmas.Map.Keys.{sorted_head, sorted_tail}
use Rattle.radio_tables.specs.Lists.{update_first, placed}
use Rattle.radio_tables.proofs.FindLaws.{find_here, find_later}

pub same_number : (k : ℕ) → (k == k) ≡ true
same_number k = grind (arith, nat_tests)

abbrev pub passing : {X : Type 0} → (X → Bool) → List X → ℕ
passing p xs = length (filter p xs)

abbrev pub one : Bool → ℕ
one true = 1
one false = 0

-- one where the element that was found passes
abbrev pub held : {X : Type 0} → (X → Bool) → Option X → ℕ
held p None = 0
held p (Some x) = one (p x)

module _ {X : Type 0} (p : X → Bool) where
  more_at : (b : Bool) (x : X) (xs : List X) → length (if b then x ∷ xs else xs) ≡ one b + length xs
  more_at true x xs = omega arith
  more_at false x xs = omega arith

  pub passing_more : (x : X) (xs : List X) → passing p (x ∷ xs) ≡ one (p x) + passing p xs
  passing_more x xs = more_at (p x) x (filter p xs)

  -- the first of some kind changed
  updated_at : (q : X → Bool) (f : X → X) (x : X) (xs : List X) (b : Bool)
      → passing p (update_first q f xs) + held p (find q xs) ≡ passing p xs + held p (option_map f (find q xs))
      → passing p (if b then f x ∷ xs else x ∷ update_first q f xs) + held p (if b then Some x else find q xs)
      ≡ passing p (x ∷ xs) + held p (option_map f (if b then Some x else find q xs))
  updated_at q f x xs true later = omega (arith, passing_more x xs, passing_more (f x) xs)
  updated_at q f x xs false later = omega (arith, later, passing_more x xs, passing_more x (update_first q f xs))

  pub passing_updated : (q : X → Bool) (f : X → X) (xs : List X)
      → passing p (update_first q f xs) + held p (find q xs) ≡ passing p xs + held p (option_map f (find q xs))
  passing_updated q f [] = refl
  passing_updated q f (x ∷ xs) = updated_at q f x xs (q x) (passing_updated q f xs)

  -- who is found counts
  found_at : (q : X → Bool) (a x : X) (xs : List X) (b : Bool) → q a ≡ b → p x ≡ true → (find q xs ≡ Some x → 0 < passing p xs)
      → find q (a ∷ xs) ≡ Some x → 0 < passing p (a ∷ xs)
  found_at q a x xs true e passes later h =
      let first : find q (a ∷ xs) ≡ Some a = find_here q a xs e in
      let same : a ≡ x = cc in
      let here : one (p a) ≡ 1 = ap one (ap p same ∙ passes) in
      omega (arith, here, passing_more a xs)
  found_at q a x xs false e passes later h =
      let behind : 0 < passing p xs = later (sym (find_later q a xs e) ∙ h) in
      omega (arith, behind, passing_more a xs)

  pub found_counts : (q : X → Bool) (xs : List X) (x : X) → find q xs ≡ Some x → p x ≡ true → 0 < passing p xs
  found_counts q [] x h passes = cc
  found_counts q (a ∷ xs) x h passes = found_at q a x xs (q a) refl passes (λ e. found_counts q xs x e passes) h

  -- all changed, so that some count no more
  pub passing_mapped : (f : X → X) (t : X → Bool) → ((x : X) → one (p (f x)) + one (t x) ≡ one (p x)) → (xs : List X)
      → passing p (map f xs) + passing t xs ≡ passing p xs
  passing_mapped f t law [] = refl
  passing_mapped f t law (x ∷ xs) =
      let more : passing t (x ∷ xs) ≡ one (t x) + passing t xs = t_more x xs in
      omega (arith, passing_mapped f t law xs, law x, passing_more x xs, passing_more (f x) (map f xs), more) where
        t_at : (b : Bool) (y : X) (ys : List X) → length (if b then y ∷ ys else ys) ≡ one b + length ys
        t_at true y ys = omega arith
        t_at false y ys = omega arith

        t_more : (y : X) (ys : List X) → passing t (y ∷ ys) ≡ one (t y) + passing t ys
        t_more y ys = t_at (t y) y (filter t ys)

  pub passing_same : (f : X → X) → ((x : X) → p (f x) ≡ p x) → (xs : List X) → passing p (map f xs) ≡ passing p xs
  passing_same f law [] = refl
  passing_same f law (x ∷ xs) =
      let here : one (p (f x)) ≡ one (p x) = ap one (law x) in
      omega (arith, passing_same f law xs, here, passing_more x xs, passing_more (f x) (map f xs))

  -- where none passes, none changes
  none_at : (f : X → X) → ((x : X) → p x ≡ false → f x ≡ x) → (x : X) (xs : List X) (b : Bool) → p x ≡ b → (passing p xs ≡ 0 → map f xs ≡ xs)
      → passing p (x ∷ xs) ≡ 0 → f x ∷ map f xs ≡ x ∷ xs
  none_at f law x xs true e later h = let here : one (p x) ≡ 1 = ap one e in absurd (omega (arith, here, passing_more x xs))
  none_at f law x xs false e later h =
      let rest : map f xs ≡ xs = later (omega (arith, passing_more x xs)) in
      let here : f x ≡ x = law x e in
      cc

  pub none_changes : (f : X → X) → ((x : X) → p x ≡ false → f x ≡ x) → (xs : List X) → passing p xs ≡ 0 → map f xs ≡ xs
  none_changes f law [] h = refl
  none_changes f law (x ∷ xs) h = none_at f law x xs (p x) refl (none_changes f law xs) h

-- rows in rising order of their numbers
module _ {X : Type 0} (p : X → Bool) (key : X → ℕ) where
  abbrev pub has : ℕ → X → Bool
  has id x = key x == id

  abbrev pub by_key : X → X → Ordering
  by_key a b = nat_cmp (key a) (key b)

  above : (id k m : ℕ) → id ≤ k → nat_cmp k m ≡ Less → (m == id) ≡ false
  above id k m below less = grind (arith, nat_tests)

  none_above : (id k : ℕ) → id ≤ k → (xs : List X) → AllByRecursion (λ m. nat_cmp k m ≡ Less) (map key xs) → find (has id) xs ≡ None
  none_above id k below [] all = refl
  none_above id k below (x ∷ xs) all = rw (above id k (key x) below all.0) (none_above id k below xs all.1)

  all_above : (id k : ℕ) → id ≤ k → (xs : List X) → AllByRecursion (λ m. nat_cmp k m ≡ Less) (map key xs) → filter (λ x. not (has id x)) xs ≡ xs
  all_above id k below [] all = refl
  all_above id k below (x ∷ xs) all = rw (above id k (key x) below all.0) (ap (λ ys. x ∷ ys) (all_above id k below xs all.1))

  not_above : (a b : ℕ) → (a == b) ≡ true → b ≤ a
  not_above a b e = grind (arith, nat_tests)

  removed_at : (id : ℕ) (x : X) (xs : List X) (b : Bool) → has id x ≡ b → AllByRecursion (λ m. nat_cmp (key x) m ≡ Less) (map key xs)
      → passing p (filter (λ y. not (has id y)) xs) + held p (find (has id) xs) ≡ passing p xs
      → passing p (if not b then x ∷ filter (λ y. not (has id y)) xs else filter (λ y. not (has id y)) xs) + held p (if b then Some x else find (has id) xs)
      ≡ passing p (x ∷ xs)
  removed_at id x xs true e all later =
      let rest : passing p (filter (λ y. not (has id y)) xs) ≡ passing p xs = ap (passing p) (all_above id (key x) (not_above (key x) id e) xs all) in
      omega (arith, rest, passing_more p x xs)
  removed_at id x xs false e all later = omega (arith, later, passing_more p x xs, passing_more p x (filter (λ y. not (has id y)) xs))

  pub passing_removed : (id : ℕ) (xs : List X) → IsStrictlySortedBy nat_cmp (map key xs)
      → passing p (filter (λ y. not (has id y)) xs) + held p (find (has id) xs) ≡ passing p xs
  passing_removed id [] sorted = refl
  passing_removed id (x ∷ xs) sorted =
      removed_at id x xs (has id x) refl (sorted_head nat_cmp (key x) (map key xs) sorted)
      (passing_removed id xs (sorted_tail nat_cmp (key x) (map key xs) sorted))

  is_less : (a b : ℕ) → nat_cmp a b ≡ Less → ((b == a) ≡ false) × (a ≤ b)
  is_less a b e = (grind (arith, nat_tests), grind (arith, nat_tests))

  is_equal : (a b : ℕ) → nat_cmp a b ≡ Equal → (b == a) ≡ true
  is_equal a b e = grind (arith, nat_tests)

  is_greater : (a b : ℕ) → nat_cmp a b ≡ Greater → (b == a) ≡ false
  is_greater a b e = grind (arith, nat_tests)

  placed_at : (new x : X) (xs : List X) (o : Ordering) → nat_cmp (key new) (key x) ≡ o → AllByRecursion (λ m. nat_cmp (key x) m ≡ Less) (map key xs)
      → passing p (placed by_key new xs) + held p (find (has (key new)) xs) ≡ passing p xs + one (p new)
      → passing p (match_ordering o (new ∷ x ∷ xs) (new ∷ xs) (x ∷ placed by_key new xs)) + held p (find (has (key new)) (x ∷ xs))
      ≡ passing p (x ∷ xs) + one (p new)
  placed_at new x xs Less e all later =
      let less = is_less (key new) (key x) e in
      let none : find (has (key new)) (x ∷ xs) ≡ None
      = find_later (has (key new)) x xs less.0 ∙ none_above (key new) (key x) less.1 xs all in
      let nothing : held p (find (has (key new)) (x ∷ xs)) ≡ 0 = ap (held p) none in
      omega (arith, nothing, passing_more p new (x ∷ xs))
  placed_at new x xs Equal e all later =
      let found : held p (find (has (key new)) (x ∷ xs)) ≡ one (p x) = ap (held p) (find_here (has (key new)) x xs (is_equal (key new) (key x) e)) in
      omega (arith, found, passing_more p new xs, passing_more p x xs)
  placed_at new x xs Greater e all later =
      let behind : held p (find (has (key new)) (x ∷ xs)) ≡ held p (find (has (key new)) xs)
      = ap (held p) (find_later (has (key new)) x xs (is_greater (key new) (key x) e)) in
      omega (arith, later, behind, passing_more p x xs, passing_more p x (placed by_key new xs))

  pub passing_placed : (new : X) (xs : List X) → IsStrictlySortedBy nat_cmp (map key xs)
      → passing p (placed by_key new xs) + held p (find (has (key new)) xs) ≡ passing p xs + one (p new)
  passing_placed new [] sorted = let more = passing_more p new [] in omega (arith, more)
  passing_placed new (x ∷ xs) sorted =
      placed_at new x xs (nat_cmp (key new) (key x)) refl (sorted_head nat_cmp (key x) (map key xs) sorted)
      (passing_placed new xs (sorted_tail nat_cmp (key x) (map key xs) sorted))

-- a list whose elements are shown as others
module _ {X Y : Type 0} (g : X → Y) where
  map_updated_at : (q : X → Bool) (f : X → X) (r : Y → Bool) (h : Y → Y) → ((x : X) → g (f x) ≡ h (g x)) → (x : X) (xs : List X) (b : Bool)
      → map g (update_first q f xs) ≡ update_first r h (map g xs)
      → map g (if b then f x ∷ xs else x ∷ update_first q f xs) ≡ (if b then h (g x) ∷ map g xs else g x ∷ update_first r h (map g xs))
  map_updated_at q f r h changes x xs true later = ap (λ y. y ∷ map g xs) (changes x)
  map_updated_at q f r h changes x xs false later = ap (λ ys. g x ∷ ys) later

  pub map_updated : (q : X → Bool) (f : X → X) (r : Y → Bool) (h : Y → Y) → ((x : X) → r (g x) ≡ q x) → ((x : X) → g (f x) ≡ h (g x)) → (xs : List X)
      → map g (update_first q f xs) ≡ update_first r h (map g xs)
  map_updated q f r h tests changes [] = refl
  map_updated q f r h tests changes (x ∷ xs) =
      rw (tests x) (map_updated_at q f r h changes x xs (q x) (map_updated q f r h tests changes xs))

  map_filtered_at : (q : X → Bool) (r : Y → Bool) (x : X) (xs : List X) (b : Bool) → map g (filter q xs) ≡ filter r (map g xs)
      → map g (if b then x ∷ filter q xs else filter q xs) ≡ (if b then g x ∷ filter r (map g xs) else filter r (map g xs))
  map_filtered_at q r x xs true later = ap (λ ys. g x ∷ ys) later
  map_filtered_at q r x xs false later = later

  pub map_filtered : (q : X → Bool) (r : Y → Bool) → ((x : X) → r (g x) ≡ q x) → (xs : List X) → map g (filter q xs) ≡ filter r (map g xs)
  map_filtered q r tests [] = refl
  map_filtered q r tests (x ∷ xs) = rw (tests x) (map_filtered_at q r x xs (q x) (map_filtered q r tests xs))

  map_placed_at : (below : X → X → Ordering) (above : Y → Y → Ordering) (new x : X) (xs : List X) (o : Ordering)
      → map g (placed below new xs) ≡ placed above (g new) (map g xs)
      → map g (match_ordering o (new ∷ x ∷ xs) (new ∷ xs) (x ∷ placed below new xs))
      ≡ match_ordering o (g new ∷ g x ∷ map g xs) (g new ∷ map g xs) (g x ∷ placed above (g new) (map g xs))
  map_placed_at below above new x xs Less later = refl
  map_placed_at below above new x xs Equal later = refl
  map_placed_at below above new x xs Greater later = ap (λ ys. g x ∷ ys) later

  pub map_placed : (below : X → X → Ordering) (above : Y → Y → Ordering) (new : X) → ((x : X) → above (g new) (g x) ≡ below new x) → (xs : List X)
      → map g (placed below new xs) ≡ placed above (g new) (map g xs)
  map_placed below above new same [] = refl
  map_placed below above new same (x ∷ xs) =
      rw (same x) (map_placed_at below above new x xs (below new x) (map_placed below above new same xs))

  pub map_both : (f : X → X) (h : Y → Y) → ((x : X) → g (f x) ≡ h (g x)) → (xs : List X) → map g (map f xs) ≡ map h (map g xs)
  map_both f h changes [] = refl
  map_both f h changes (x ∷ xs) = let here = changes x in let later = map_both f h changes xs in cc

  map_found_at : (q : X → Bool) (r : Y → Bool) (x : X) (xs : List X) (b : Bool) → find r (map g xs) ≡ option_map g (find q xs)
      → (if b then Some (g x) else find r (map g xs)) ≡ option_map g (if b then Some x else find q xs)
  map_found_at q r x xs true later = refl
  map_found_at q r x xs false later = later

  pub map_found : (q : X → Bool) (r : Y → Bool) → ((x : X) → r (g x) ≡ q x) → (xs : List X) → find r (map g xs) ≡ option_map g (find q xs)
  map_found q r tests [] = refl
  map_found q r tests (x ∷ xs) = rw (tests x) (map_found_at q r x xs (q x) (map_found q r tests xs))

  pub map_counted : (q : X → Bool) (r : Y → Bool) → ((x : X) → r (g x) ≡ q x) → (xs : List X) → length (filter r (map g xs)) ≡ length (filter q xs)
  map_counted q r tests xs = ap length (sym (map_filtered q r tests xs)) ∙ length_mapped (filter q xs) where
    length_mapped : (ys : List X) → length (map g ys) ≡ length ys
    length_mapped [] = refl
    length_mapped (y ∷ ys) = let later = length_mapped ys in omega (arith, later)

  pub map_any : (q : X → Bool) (r : Y → Bool) → ((x : X) → r (g x) ≡ q x) → (xs : List X) → list_any r (map g xs) ≡ list_any q xs
  map_any q r tests [] = refl
  map_any q r tests (x ∷ xs) = rw (tests x) (ap (λ b. q x || b) (map_any q r tests xs))

-- a row that was put into its place and is taken out of it
module _ {X : Type 0} (key : X → ℕ) where
  same_key : (k : ℕ) → (k == k) ≡ true
  same_key k = grind (arith, nat_tests)

  equal_key : (a b : ℕ) → nat_cmp a b ≡ Equal → (b == a) ≡ true
  equal_key a b e = grind (arith, nat_tests)

  removed_again : (new x : X) (xs : List X) (o : Ordering) → nat_cmp (key new) (key x) ≡ o
      → filter (λ y. not (key y == key new)) (placed (λ a b. nat_cmp (key a) (key b)) new xs) ≡ filter (λ y. not (key y == key new)) xs
      → filter (λ y. not (key y == key new)) (match_ordering o (new ∷ x ∷ xs) (new ∷ xs) (x ∷ placed (λ a b. nat_cmp (key a) (key b)) new xs))
      ≡ filter (λ y. not (key y == key new)) (x ∷ xs)
  removed_again new x xs Less e later = rw (same_key (key new)) refl
  removed_again new x xs Equal e later = rw (same_key (key new), equal_key (key new) (key x) e) refl
  removed_again new x xs Greater e later = by_test (not (key x == key new)) where
    by_test : (b : Bool)
        → (if b then x ∷ filter (λ y. not (key y == key new)) (placed (λ a b. nat_cmp (key a) (key b)) new xs)
        else filter (λ y. not (key y == key new)) (placed (λ a b. nat_cmp (key a) (key b)) new xs))
        ≡ (if b then x ∷ filter (λ y. not (key y == key new)) xs else filter (λ y. not (key y == key new)) xs)
    by_test true = ap (λ ys. x ∷ ys) later
    by_test false = later

  pub placed_removed : (new : X) (xs : List X)
      → filter (λ y. not (key y == key new)) (placed (λ a b. nat_cmp (key a) (key b)) new xs) ≡ filter (λ y. not (key y == key new)) xs
  placed_removed new [] = rw (same_key (key new)) refl
  placed_removed new (x ∷ xs) = removed_again new x xs (nat_cmp (key new) (key x)) refl (placed_removed new xs)

-- where none is found none goes
module _ {X : Type 0} (p : X → Bool) where
  not_here : (x : X) (xs : List X) (b : Bool) → p x ≡ b → (find p xs ≡ None → filter (λ y. not (p y)) xs ≡ xs) → find p (x ∷ xs) ≡ None
      → (if not b then x ∷ filter (λ y. not (p y)) xs else filter (λ y. not (p y)) xs) ≡ x ∷ xs
  not_here x xs true e later none = let first : find p (x ∷ xs) ≡ Some x = find_here p x xs e in cc
  not_here x xs false e later none = ap (λ ys. x ∷ ys) (later (sym (find_later p x xs e) ∙ none))

  pub none_removed : (xs : List X) → find p xs ≡ None → filter (λ y. not (p y)) xs ≡ xs
  none_removed [] none = refl
  none_removed (x ∷ xs) none = not_here x xs (p x) refl (none_removed xs) none

  fits_at : (b : Bool) (x : X) (xs ys : List X) → length xs ≤ length ys → length (if b then x ∷ xs else xs) ≤ length (x ∷ ys)
  fits_at true x xs ys h = omega arith
  fits_at false x xs ys h = omega arith

  pub passing_fits : (xs : List X) → passing p xs ≤ length xs
  passing_fits [] = omega arith
  passing_fits (x ∷ xs) = fits_at (p x) x (filter p xs) xs (passing_fits xs)

  -- who is found passes, and where none is found none does
  none_passes_at : (x : X) (xs : List X) (b : Bool) → p x ≡ b → (find p xs ≡ None → passing p xs ≡ 0) → find p (x ∷ xs) ≡ None
      → length (if b then x ∷ filter p xs else filter p xs) ≡ 0
  none_passes_at x xs true e later none = let first : find p (x ∷ xs) ≡ Some x = find_here p x xs e in cc
  none_passes_at x xs false e later none = later (sym (find_later p x xs e) ∙ none)

  pub none_passes : (xs : List X) → find p xs ≡ None → passing p xs ≡ 0
  none_passes [] none = refl
  none_passes (x ∷ xs) none = none_passes_at x xs (p x) refl (none_passes xs) none

-- who is found in a list from which some were taken
module _ {X : Type 0} (p q : X → Bool) where
  any_at : (x : X) (xs : List X) (b : Bool) → list_any p (filter q xs) ≡ list_any (λ y. q y && p y) xs
      → list_any p (if b then x ∷ filter q xs else filter q xs) ≡ ((b && p x) || list_any (λ y. q y && p y) xs)
  any_at x xs true later = ap (λ b. p x || b) later
  any_at x xs false later = later

  pub any_filtered : (xs : List X) → list_any p (filter q xs) ≡ list_any (λ y. q y && p y) xs
  any_filtered [] = refl
  any_filtered (x ∷ xs) = any_at x xs (q x) (any_filtered xs)
