-- what becomes of a list in two parts, of which one has nobody who is meant
use Rattle.std.proofs.Common.{◌≡◌, Bool, true, false, Option, Some, None, List, [], ◌∷◌, ◌++◌, not, refl, ap, ◌∙◌}
use Rattle.std.specs.Prelude.{find, filter, if◌then◌else◌}
use Rattle.std.specs.Option.{option_or}
use Rattle.std.proofs.lemmas.List.Folds.{find-append}
use Rattle.std.proofs.lemmas.List.Elements.{filter-append}
use Rattle.radio_tables.specs.Lists.{update_first, Each}
use Rattle.radio_tables.proofs.FindLaws.{finds_none}

module _ {X : Type 0} (p : X → Bool) where
  abbrev pub HasNone : List X → Type 0
  HasNone xs = Each (λ x. p x ≡ false) xs

  -- a search
  none_else : (found : Option X) → option_or found None ≡ found
  none_else None = refl
  none_else (Some x) = refl

  pub found_left : (l m : List X) → HasNone m → find p (l ++ m) ≡ find p l
  found_left l m none = find-append p l m ∙ ap (option_or (find p l)) (finds_none p m none) ∙ none_else (find p l)

  pub found_right : (l m : List X) → HasNone l → find p (l ++ m) ≡ find p m
  found_right l m none = find-append p l m ∙ ap (λ (found : Option X). option_or found (find p m)) (finds_none p l none)

  -- a change of the first
  module _ (f : X → X) where
    past_at : (x : X) (xs ys : List X) (b : Bool) → b ≡ false → update_first p f xs ≡ ys → (if b then f x ∷ xs else x ∷ update_first p f xs) ≡ x ∷ ys
    past_at x xs ys true e later = cc
    past_at x xs ys false e later = ap (λ zs. x ∷ zs) later

    none_changes : (m : List X) → HasNone m → update_first p f m ≡ m
    none_changes [] none = refl
    none_changes (x ∷ m) none = past_at x m m (p x) none.0 (none_changes m none.1)

    left_at : (x : X) (l m : List X) (b : Bool) → update_first p f (l ++ m) ≡ update_first p f l ++ m
        → (if b then f x ∷ (l ++ m) else x ∷ update_first p f (l ++ m)) ≡ (if b then f x ∷ l else x ∷ update_first p f l) ++ m
    left_at x l m true later = refl
    left_at x l m false later = ap (λ zs. x ∷ zs) later

    pub changed_left : (l m : List X) → HasNone m → update_first p f (l ++ m) ≡ update_first p f l ++ m
    changed_left [] m none = none_changes m none
    changed_left (x ∷ l) m none = left_at x l m (p x) (changed_left l m none)

    pub changed_right : (l m : List X) → HasNone l → update_first p f (l ++ m) ≡ l ++ update_first p f m
    changed_right [] m none = refl
    changed_right (x ∷ l) m none = past_at x (l ++ m) (l ++ update_first p f m) (p x) none.0 (changed_right l m none.1)

  -- a taking away
  stay_at : (x : X) (m : List X) (b : Bool) → b ≡ false → filter (λ y. not (p y)) m ≡ m
      → (if not b then x ∷ filter (λ y. not (p y)) m else filter (λ y. not (p y)) m) ≡ x ∷ m
  stay_at x m true e later = cc
  stay_at x m false e later = ap (λ zs. x ∷ zs) later

  pub none_goes : (m : List X) → HasNone m → filter (λ y. not (p y)) m ≡ m
  none_goes [] none = refl
  none_goes (x ∷ m) none = stay_at x m (p x) none.0 (none_goes m none.1)

  pub gone_left : (l m : List X) → HasNone m → filter (λ y. not (p y)) (l ++ m) ≡ filter (λ y. not (p y)) l ++ m
  gone_left l m none = filter-append (λ y. not (p y)) l m ∙ ap (λ zs. filter (λ y. not (p y)) l ++ zs) (none_goes m none)

  pub gone_right : (l m : List X) → HasNone l → filter (λ y. not (p y)) (l ++ m) ≡ l ++ filter (λ y. not (p y)) m
  gone_right l m none = filter-append (λ y. not (p y)) l m ∙ ap (λ zs. zs ++ filter (λ y. not (p y)) m) (none_goes l none)
