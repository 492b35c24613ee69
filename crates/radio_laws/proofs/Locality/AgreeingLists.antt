-- lists whose elements agree place by place, and what is made of them
use Rattle.std.proofs.Common.{◌≡◌, ◌⊎◌, inl, inr, Bool, true, false, suc, Option, Some, None, List, [], ◌∷◌, refl, ap, ◌∙◌}
use Rattle.radio_laws.proofs.Words.{find, filter, filter_map, map, length, if◌then◌else◌, list_any, Ordering, Less, Equal, Greater, match_ordering, update_first, placed, find_here, find_later, AllAgree}

-- what is found in both agrees, or nothing is found in either
pub data FoundAgree {X : Type 0} (R : X → X → Type 0) : Option X → Option X → Type 0 where
  NoneFound : FoundAgree R None None
  BothFound : (x y : X) → R x y → FoundAgree R (Some x) (Some y)

module _ {X : Type 0} (R : X → X → Type 0) where
  -- a list agrees with itself, element by element
  pub agree_all : ((x : X) → R x x) → (xs : List X) → AllAgree R xs xs
  agree_all same [] = tt
  agree_all same (x ∷ xs) = (same x, agree_all same xs)

  pub agree_length : (xs ys : List X) → AllAgree R xs ys → length xs ≡ length ys
  agree_length [] [] r = refl
  agree_length (x ∷ xs) (y ∷ ys) r = ap suc (agree_length xs ys r.1)
  agree_length [] (y ∷ ys) r = absurd r
  agree_length (x ∷ xs) [] r = absurd r

  -- if only equals agree, the lists are equal
  pub agree_equal : ((x y : X) → R x y → x ≡ y) → (xs ys : List X) → AllAgree R xs ys → xs ≡ ys
  agree_equal same [] [] r = refl
  agree_equal same (x ∷ xs) (y ∷ ys) r = let here = same x y r.0 in let later = agree_equal same xs ys r.1 in cc
  agree_equal same [] (y ∷ ys) r = absurd r
  agree_equal same (x ∷ xs) [] r = absurd r

  -- a function that has the same value for elements that agree
  module _ {Y : Type 0} (f : X → Y) (alike : (x y : X) → R x y → f x ≡ f y) where
    pub agree_mapped : (xs ys : List X) → AllAgree R xs ys → map f xs ≡ map f ys
    agree_mapped [] [] r = refl
    agree_mapped (x ∷ xs) (y ∷ ys) r = let here = alike x y r.0 in let later = agree_mapped xs ys r.1 in cc
    agree_mapped [] (y ∷ ys) r = absurd r
    agree_mapped (x ∷ xs) [] r = absurd r

  module _ {Y : Type 0} (f : X → Option Y) (alike : (x y : X) → R x y → f x ≡ f y) where
    pub agree_kept : (xs ys : List X) → AllAgree R xs ys → filter_map f xs ≡ filter_map f ys
    agree_kept [] [] r = refl
    agree_kept (x ∷ xs) (y ∷ ys) r = let here = alike x y r.0 in let later = agree_kept xs ys r.1 in rw (here, later) refl
    agree_kept [] (y ∷ ys) r = absurd r
    agree_kept (x ∷ xs) [] r = absurd r

  -- a test that has the same result for elements that agree
  module _ (p : X → Bool) (alike : (x y : X) → R x y → p x ≡ p y) where
    pub agree_any : (xs ys : List X) → AllAgree R xs ys → list_any p xs ≡ list_any p ys
    agree_any [] [] r = refl
    agree_any (x ∷ xs) (y ∷ ys) r = let here = alike x y r.0 in let later = agree_any xs ys r.1 in rw (here, later) refl
    agree_any [] (y ∷ ys) r = absurd r
    agree_any (x ∷ xs) [] r = absurd r

    filtered_at : (x y : X) (xs ys : List X) (b : Bool) → R x y → AllAgree R xs ys → AllAgree R (if b then x ∷ xs else xs) (if b then y ∷ ys else ys)
    filtered_at x y xs ys true here later = (here, later)
    filtered_at x y xs ys false here later = later

    pub agree_filtered : (xs ys : List X) → AllAgree R xs ys → AllAgree R (filter p xs) (filter p ys)
    agree_filtered [] [] r = tt
    agree_filtered (x ∷ xs) (y ∷ ys) r =
        rw (alike x y r.0) (filtered_at x y (filter p xs) (filter p ys) (p y) r.0 (agree_filtered xs ys r.1))
    agree_filtered [] (y ∷ ys) r = absurd r
    agree_filtered (x ∷ xs) [] r = absurd r

    found_at : (x y : X) (found other : Option X) (b : Bool) → R x y → FoundAgree R found other
        → FoundAgree R (if b then Some x else found) (if b then Some y else other)
    found_at x y found other true here later = BothFound x y here
    found_at x y found other false here later = later

    pub agree_found : (xs ys : List X) → AllAgree R xs ys → FoundAgree R (find p xs) (find p ys)
    agree_found [] [] r = NoneFound
    agree_found (x ∷ xs) (y ∷ ys) r = rw (alike x y r.0) (found_at x y (find p xs) (find p ys) (p y) r.0 (agree_found xs ys r.1))
    agree_found [] (y ∷ ys) r = absurd r
    agree_found (x ∷ xs) [] r = absurd r

    -- the first that passes is changed in both, and what is made of it agrees
    module _ (f : X → X) where
      updated_at : (x y : X) (xs ys : List X) (b : Bool) → p y ≡ b → R x y → (find p (y ∷ ys) ≡ Some y → R (f x) (f y)) → AllAgree R xs ys
          → (p y ≡ false → AllAgree R (update_first p f xs) (update_first p f ys))
          → AllAgree R (if b then f x ∷ xs else x ∷ update_first p f xs) (if b then f y ∷ ys else y ∷ update_first p f ys)
      updated_at x y xs ys true e here made rest later = (made (find_here p y ys e), rest)
      updated_at x y xs ys false e here made rest later = (here, later e)

      pub agree_updated : (xs ys : List X) → ((x y : X) → R x y → find p ys ≡ Some y → R (f x) (f y)) → AllAgree R xs ys
          → AllAgree R (update_first p f xs) (update_first p f ys)
      agree_updated [] [] made r = tt
      agree_updated (x ∷ xs) (y ∷ ys) made r =
          rw (alike x y r.0) (updated_at x y xs ys (p y) refl r.0 (made x y r.0) r.1
          (λ passed. agree_updated xs ys (λ a b agree found. made a b agree (find_later p y ys passed ∙ found)) r.1))
      agree_updated [] (y ∷ ys) made r = absurd r
      agree_updated (x ∷ xs) [] made r = absurd r

  -- those that pass are equal in both
  module _ (p : X → Bool) (alike : (x y : X) → R x y → (x ≡ y) ⊎ ((p x ≡ false) × (p y ≡ false))) where
    picked_at : (x y : X) (xs ys : List X) → (x ≡ y) ⊎ ((p x ≡ false) × (p y ≡ false)) → filter p xs ≡ filter p ys → filter p (x ∷ xs) ≡ filter p (y ∷ ys)
    picked_at x y xs ys (inl same) later = rw (same, later) refl
    picked_at x y xs ys (inr neither) later = rw (neither.0, neither.1) later

    pub agree_picked : (xs ys : List X) → AllAgree R xs ys → filter p xs ≡ filter p ys
    agree_picked [] [] r = refl
    agree_picked (x ∷ xs) (y ∷ ys) r = picked_at x y xs ys (alike x y r.0) (agree_picked xs ys r.1)
    agree_picked [] (y ∷ ys) r = absurd r
    agree_picked (x ∷ xs) [] r = absurd r

  -- each is changed
  module _ (f : X → X) (made : (x y : X) → R x y → R (f x) (f y)) where
    pub agree_each : (xs ys : List X) → AllAgree R xs ys → AllAgree R (map f xs) (map f ys)
    agree_each [] [] r = tt
    agree_each (x ∷ xs) (y ∷ ys) r = (made x y r.0, agree_each xs ys r.1)
    agree_each [] (y ∷ ys) r = absurd r
    agree_each (x ∷ xs) [] r = absurd r

  -- one more is put in its place
  module _ (compare : X → X → Ordering) (new : X) (same : R new new) (alike : (x y : X) → R x y → compare new x ≡ compare new y) where
    placed_at : (x y : X) (xs ys : List X) (o : Ordering) → R x y → AllAgree R xs ys → AllAgree R (placed compare new xs) (placed compare new ys)
        → AllAgree R (match_ordering o (new ∷ x ∷ xs) (new ∷ xs) (x ∷ placed compare new xs))
        (match_ordering o (new ∷ y ∷ ys) (new ∷ ys) (y ∷ placed compare new ys))
    placed_at x y xs ys Less here rest later = (same, (here, rest))
    placed_at x y xs ys Equal here rest later = (same, rest)
    placed_at x y xs ys Greater here rest later = (here, later)

    pub agree_placed : (xs ys : List X) → AllAgree R xs ys → AllAgree R (placed compare new xs) (placed compare new ys)
    agree_placed [] [] r = (same, tt)
    agree_placed (x ∷ xs) (y ∷ ys) r = rw (alike x y r.0) (placed_at x y xs ys (compare new y) r.0 r.1 (agree_placed xs ys r.1))
    agree_placed [] (y ∷ ys) r = absurd r
    agree_placed (x ∷ xs) [] r = absurd r
