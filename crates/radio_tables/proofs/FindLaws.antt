-- what a search finds, before and after a change of the list
use Rattle.std.proofs.Common.{◌≡◌, Bool, true, false, Option, Some, None, List, [], ◌∷◌, ◌++◌, not, refl, ap, sym, subst, ◌∙◌}
use Rattle.std.specs.Prelude.{find, filter, map, if◌then◌else◌}
use Rattle.std.specs.Option.{option_or, option_map}
use Rattle.std.proofs.lemmas.List.Folds.{find-append}
use Rattle.radio_tables.specs.Lists.{update_first, Each}

-- what was found is found still when more comes behind it
pub find_before : {X : Type 0} (p : X → Bool) (xs ys : List X) (x : X) → find p xs ≡ Some x → find p (xs ++ ys) ≡ Some x
find_before p xs ys x e = find-append p xs ys ∙ ap (λ found. option_or found (find p ys)) e

module _ {X : Type 0} (p : X → Bool) where
  -- the first element is found, or it is passed over
  pub find_here : (a : X) (xs : List X) → p a ≡ true → find p (a ∷ xs) ≡ Some a
  find_here a xs e = rw e refl

  pub find_later : (a : X) (xs : List X) → p a ≡ false → find p (a ∷ xs) ≡ find p xs
  find_later a xs e = rw e refl

  -- what was found passes
  found_at : (a : X) (xs : List X) (x : X) (b : Bool) → p a ≡ b → (find p xs ≡ Some x → p x ≡ true) → find p (a ∷ xs) ≡ Some x → p x ≡ true
  found_at a xs x true e later h = let here : find p (a ∷ xs) ≡ Some a = find_here a xs e in let same : a ≡ x = cc in ap p (sym same) ∙ e
  found_at a xs x false e later h = later (sym (find_later a xs e) ∙ h)

  pub found_passes : (xs : List X) (x : X) → find p xs ≡ Some x → p x ≡ true
  found_passes [] x h = cc
  found_passes (a ∷ xs) x h = found_at a xs x (p a) refl (found_passes xs x) h

  -- what holds of all holds of what is found
  all_at : (P : X → Type 0) (a : X) (xs : List X) (x : X) (b : Bool) → p a ≡ b → P a → (find p xs ≡ Some x → P x) → find p (a ∷ xs) ≡ Some x → P x
  all_at P a xs x true e first later h = let here : find p (a ∷ xs) ≡ Some a = find_here a xs e in let same : a ≡ x = cc in subst P same first
  all_at P a xs x false e first later h = later (sym (find_later a xs e) ∙ h)

  pub found_has : (P : X → Type 0) (xs : List X) (x : X) → Each P xs → find p xs ≡ Some x → P x
  found_has P [] x all h = cc
  found_has P (a ∷ xs) x all h = all_at P a xs x (p a) refl all.0 (found_has P xs x all.1) h

module _ {X : Type 0} (p : X → Bool) where
  -- where nothing is found, no element passes
  passes_none_at : (x : X) (xs : List X) (b : Bool) → p x ≡ b → (find p xs ≡ None → Each (λ y. p y ≡ false) xs) → find p (x ∷ xs) ≡ None
      → Each (λ y. p y ≡ false) (x ∷ xs)
  passes_none_at x xs true e later h = let here : find p (x ∷ xs) ≡ Some x = find_here p x xs e in cc
  passes_none_at x xs false e later h = (e, later (sym (find_later p x xs e) ∙ h))

  pub passes_none : (xs : List X) → find p xs ≡ None → Each (λ y. p y ≡ false) xs
  passes_none [] h = tt
  passes_none (x ∷ xs) h = passes_none_at x xs (p x) refl (passes_none xs) h

  -- where no element passes, nothing is found
  pub finds_none : (xs : List X) → Each (λ y. p y ≡ false) xs → find p xs ≡ None
  finds_none [] all = refl
  finds_none (x ∷ xs) all = find_later p x xs all.0 ∙ finds_none xs all.1

  -- what is found among one element is that one
  only_one : (x y : X) (b : Bool) → p x ≡ b → find p (x ∷ []) ≡ Some y → (x ≡ y) × (p x ≡ true)
  only_one x y true e h = let here : find p (x ∷ []) ≡ Some x = find_here p x [] e in let same : x ≡ y = cc in (same, e)
  only_one x y false e h = let past : find p (x ∷ []) ≡ None = find_later p x [] e in cc

  -- behind a list in which nothing is found, the last element is found if it passes
  pub found_last : (xs : List X) (x : X) → find p xs ≡ None → p x ≡ true → find p (xs ++ x ∷ []) ≡ Some x
  found_last xs x none passes = find-append p xs (x ∷ []) ∙ ap (λ (o : Option X). option_or o (find p (x ∷ []))) none ∙ find_here p x [] passes

  pub was_last : (xs : List X) (x y : X) → find p xs ≡ None → find p (xs ++ x ∷ []) ≡ Some y → (x ≡ y) × (p x ≡ true)
  was_last xs x y none h =
      let last : find p (xs ++ x ∷ []) ≡ find p (x ∷ []) = find-append p xs (x ∷ []) ∙ ap (λ (o : Option X). option_or o (find p (x ∷ []))) none in
      only_one x y (p x) refl (sym last ∙ h)

  -- and if it does not pass, it changes nothing of what is found
  or_none : (found : Option X) → option_or found None ≡ found
  or_none None = refl
  or_none (Some x) = refl

  pub passed_last : (xs : List X) (x : X) → p x ≡ false → find p (xs ++ x ∷ []) ≡ find p xs
  passed_last xs x e = find-append p xs (x ∷ []) ∙ ap (option_or (find p xs)) (find_later p x [] e) ∙ or_none (find p xs)

-- what a search finds after changes of what it does not look for

module _ {X : Type 0} (p q : X → Bool) where
  -- the first that passes q changes, and none of those is looked for
  apart_at : (f : X → X) (a : X) (xs : List X) (b : Bool) → q a ≡ b → (q a ≡ true → (p a ≡ false) × (p (f a) ≡ false))
      → find p (update_first q f xs) ≡ find p xs → find p (if b then f a ∷ xs else a ∷ update_first q f xs) ≡ find p (a ∷ xs)
  apart_at f a xs true e apart later = find_later p (f a) xs (apart e).1 ∙ sym (find_later p a xs (apart e).0)
  apart_at f a xs false e apart later = ap (λ found. if p a then Some a else found) later

  pub find_apart : (f : X → X) → ((x : X) → q x ≡ true → (p x ≡ false) × (p (f x) ≡ false)) → (xs : List X) → find p (update_first q f xs) ≡ find p xs
  find_apart f apart [] = refl
  find_apart f apart (a ∷ xs) = apart_at f a xs (q a) refl (apart a) (find_apart f apart xs)

  -- the first that passes q changes, and what is looked for changes by R at most
  module _ (f : X → X) (R : X → X → Type 0) (same_test : (x : X) → p (f x) ≡ p x) (stays : (x : X) → R x x) (changes : (x : X) → R (f x) x) where
    abbrev pub Finds : X → List X → Type 0
    Finds x xs = (y : X) × (find p xs ≡ Some y) × R y x

    changed_at : (a : X) (xs : List X) (x : X) (b c : Bool) → q a ≡ b → p a ≡ c → (find p xs ≡ Some x → Finds x (update_first q f xs))
        → find p (a ∷ xs) ≡ Some x → Finds x (if b then f a ∷ xs else a ∷ update_first q f xs)
    changed_at a xs x true true eq ep later h =
        let here : find p (a ∷ xs) ≡ Some a = find_here p a xs ep in
        let same : a ≡ x = cc in
        (f a, find_here p (f a) xs (same_test a ∙ ep), subst (λ (y : X). R (f a) y) same (changes a))
    changed_at a xs x true false eq ep later h = (x, find_later p (f a) xs (same_test a ∙ ep) ∙ sym (find_later p a xs ep) ∙ h, stays x)
    changed_at a xs x false true eq ep later h =
        let here : find p (a ∷ xs) ≡ Some a = find_here p a xs ep in
        let same : a ≡ x = cc in
        (a, find_here p a (update_first q f xs) ep, subst (λ (y : X). R a y) same (stays a))
    changed_at a xs x false false eq ep later h =
        let found : Finds x (update_first q f xs) = later (sym (find_later p a xs ep) ∙ h) in
        (found.0, find_later p a (update_first q f xs) ep ∙ found.1, found.2)

    pub find_changed : (xs : List X) (x : X) → find p xs ≡ Some x → Finds x (update_first q f xs)
    find_changed [] x h = cc
    find_changed (a ∷ xs) x h = changed_at a xs x (q a) (p a) refl refl (find_changed xs x) h

  -- what is found in a filtered list passes the filter
  passes_at : (a : X) (xs : List X) (x : X) (b : Bool) → q a ≡ b → (c : Bool) → p a ≡ c → (find p (filter q xs) ≡ Some x → q x ≡ true)
      → find p (if b then a ∷ filter q xs else filter q xs) ≡ Some x → q x ≡ true
  passes_at a xs x true e true ep later h =
      let here : find p (a ∷ filter q xs) ≡ Some a = find_here p a (filter q xs) ep in let same : a ≡ x = cc in ap q (sym same)
      ∙ e
  passes_at a xs x true e false ep later h = later (sym (find_later p a (filter q xs) ep) ∙ h)
  passes_at a xs x false e c ep later h = later h

  pub filter_passes_found : (xs : List X) (x : X) → find p (filter q xs) ≡ Some x → q x ≡ true
  filter_passes_found [] x h = cc
  filter_passes_found (a ∷ xs) x h = passes_at a xs x (q a) refl (p a) refl (filter_passes_found xs x) h

  -- what passes the filter is found still
  kept_at : (a : X) (xs : List X) (x : X) (b c : Bool) → q a ≡ b → p a ≡ c → q x ≡ true → (find p xs ≡ Some x → find p (filter q xs) ≡ Some x)
      → find p (a ∷ xs) ≡ Some x → find p (if b then a ∷ filter q xs else filter q xs) ≡ Some x
  kept_at a xs x true true eq ep stays later h = find_here p a (filter q xs) ep ∙ sym (find_here p a xs ep) ∙ h
  kept_at a xs x true false eq ep stays later h = find_later p a (filter q xs) ep ∙ later (sym (find_later p a xs ep) ∙ h)
  kept_at a xs x false true eq ep stays later h =
      let here : find p (a ∷ xs) ≡ Some a = find_here p a xs ep in
      let same : a ≡ x = cc in
      let passes : q a ≡ true = ap q same ∙ stays in
      cc
  kept_at a xs x false false eq ep stays later h = later (sym (find_later p a xs ep) ∙ h)

  pub find_kept : (xs : List X) (x : X) → q x ≡ true → find p xs ≡ Some x → find p (filter q xs) ≡ Some x
  find_kept [] x stays h = cc
  find_kept (a ∷ xs) x stays h = kept_at a xs x (q a) (p a) refl refl stays (find_kept xs x stays) h

-- the first that passes is changed itself
same_at : {X : Type 0} (p : X → Bool) (f : X → X) (a : X) (xs : List X) (x : X) (b : Bool) → p a ≡ b → p (f a) ≡ p a
    → (find p xs ≡ Some x → find p (update_first p f xs) ≡ Some (f x)) → find p (a ∷ xs) ≡ Some x
    → find p (if b then f a ∷ xs else a ∷ update_first p f xs) ≡ Some (f x)
same_at p f a xs x true e same_test later h =
    let here : find p (a ∷ xs) ≡ Some a = find_here p a xs e in
    let same : a ≡ x = cc in
    find_here p (f a) xs (same_test ∙ e) ∙ ap (λ y. Some (f y)) same
same_at p f a xs x false e same_test later h = find_later p a (update_first p f xs) e ∙ later (sym (find_later p a xs e) ∙ h)

pub find_same : {X : Type 0} (p : X → Bool) (f : X → X) → ((x : X) → p (f x) ≡ p x) → (xs : List X) (x : X) → find p xs ≡ Some x
    → find p (update_first p f xs) ≡ Some (f x)
find_same p f same_test [] x h = cc
find_same p f same_test (a ∷ xs) x h = same_at p f a xs x (p a) refl (same_test a) (find_same p f same_test xs x) h

-- who is found changes alike by two changes that make the same of it
module _ {X : Type 0} (p : X → Bool) (f g : X → X) (x : X) (same : f x ≡ g x) where
  changed_alike_at : (a : X) (xs : List X) (b : Bool) → p a ≡ b → (find p xs ≡ Some x → update_first p f xs ≡ update_first p g xs)
      → find p (a ∷ xs) ≡ Some x → (if b then f a ∷ xs else a ∷ update_first p f xs) ≡ (if b then g a ∷ xs else a ∷ update_first p g xs)
  changed_alike_at a xs true e later h =
      let here : find p (a ∷ xs) ≡ Some a = find_here p a xs e in
      let him : a ≡ x = cc in
      ap (λ y. y ∷ xs) (ap f him ∙ same ∙ ap g (sym him))
  changed_alike_at a xs false e later h = ap (λ ys. a ∷ ys) (later (sym (find_later p a xs e) ∙ h))

  pub changed_alike : (xs : List X) → find p xs ≡ Some x → update_first p f xs ≡ update_first p g xs
  changed_alike [] h = refl
  changed_alike (a ∷ xs) h = changed_alike_at a xs (p a) refl (changed_alike xs) h

-- and nothing changes by one that leaves it as it is
module _ {X : Type 0} (p : X → Bool) where
  itself_at : (x : X) (xs : List X) (b : Bool) → update_first p (λ y. y) xs ≡ xs → (if b then x ∷ xs else x ∷ update_first p (λ y. y) xs) ≡ x ∷ xs
  itself_at x xs true later = refl
  itself_at x xs false later = ap (λ ys. x ∷ ys) later

  itself : (xs : List X) → update_first p (λ y. y) xs ≡ xs
  itself [] = refl
  itself (x ∷ xs) = itself_at x xs (p x) (itself xs)

  pub unchanged : (f : X → X) (x : X) → f x ≡ x → (xs : List X) → find p xs ≡ Some x → update_first p f xs ≡ xs
  unchanged f x same xs h = changed_alike p f (λ y. y) x same xs h ∙ itself xs

-- what is taken away is found no more, and all else as before
module _ {X : Type 0} (p q : X → Bool) where
  removed_at : (a : X) (xs : List X) (b : Bool) → p a ≡ b → find p (filter (λ x. not (p x)) xs) ≡ None
      → find p (if not b then a ∷ filter (λ x. not (p x)) xs else filter (λ x. not (p x)) xs) ≡ None
  removed_at a xs true e later = later
  removed_at a xs false e later = find_later p a (filter (λ x. not (p x)) xs) e ∙ later

  pub find_removed : (xs : List X) → find p (filter (λ x. not (p x)) xs) ≡ None
  find_removed [] = refl
  find_removed (a ∷ xs) = removed_at a xs (p a) refl (find_removed xs)

  others_at : (a : X) (xs : List X) (b : Bool) → q a ≡ b → (q a ≡ true → p a ≡ false) → find p (filter (λ x. not (q x)) xs) ≡ find p xs
      → find p (if not b then a ∷ filter (λ x. not (q x)) xs else filter (λ x. not (q x)) xs) ≡ find p (a ∷ xs)
  others_at a xs true e apart later = later ∙ sym (find_later p a xs (apart e))
  others_at a xs false e apart later = ap (λ found. if p a then Some a else found) later

  pub find_others : ((x : X) → q x ≡ true → p x ≡ false) → (xs : List X) → find p (filter (λ x. not (q x)) xs) ≡ find p xs
  find_others apart [] = refl
  find_others apart (a ∷ xs) = others_at a xs (q a) refl (apart a) (find_others apart xs)

-- where all elements change, what is found has changed
module _ {X : Type 0} (p : X → Bool) (f : X → X) (same_test : (x : X) → p (f x) ≡ p x) where
  mapped_at : (a : X) (xs : List X) (b : Bool) → p a ≡ b → find p (map f xs) ≡ option_map f (find p xs)
      → find p (map f (a ∷ xs)) ≡ option_map f (find p (a ∷ xs))
  mapped_at a xs true e later = find_here p (f a) (map f xs) (same_test a ∙ e) ∙ ap (option_map f) (sym (find_here p a xs e))
  mapped_at a xs false e later = find_later p (f a) (map f xs) (same_test a ∙ e) ∙ later ∙ ap (option_map f) (sym (find_later p a xs e))

  pub find_mapped : (xs : List X) → find p (map f xs) ≡ option_map f (find p xs)
  find_mapped [] = refl
  find_mapped (a ∷ xs) = mapped_at a xs (p a) refl (find_mapped xs)
