-- what holds of each element, and who is one of the elements, before and after a change of the list
use Rattle.std.proofs.Common.{◌≡◌, Bool, true, false, Some, List, [], ◌∷◌, ◌++◌, ◌⊎◌, inl, inr, refl, sym, ◌∙◌}
use Rattle.std.specs.Prelude.{find, filter, map, if◌then◌else◌}
use Rattle.std.specs.declared.cmp.Ordering.{Ordering}
use Rattle.std.specs.declared.cmp.Ordering.TheVariants.{Less, Equal, Greater}
use Rattle.std.specs.Ordering.{match_ordering}
use Rattle.radio_tables.specs.Lists.{update_first, placed, Each, Has}
use Rattle.radio_tables.proofs.FindLaws.{find_here, find_later}

pub Each_each : {X : Type 0} (P Q : X → Type 0) → ((x : X) → P x → Q x) → (xs : List X) → Each P xs → Each Q xs
Each_each P Q follows [] all = tt
Each_each P Q follows (x ∷ xs) all = (follows x all.0, Each_each P Q follows xs all.1)

module _ {X : Type 0} (P Q : X → Type 0) (p : X → Bool) where
  filter_at : (x : X) (xs : List X) (b : Bool) → p x ≡ b → (p x ≡ true → Q x) → Each Q (filter p xs) → Each Q (if b then x ∷ filter p xs else filter p xs)
  filter_at x xs true e here all = (here e, all)
  filter_at x xs false e here all = all

  pub Each_kept : ((x : X) → P x → p x ≡ true → Q x) → (xs : List X) → Each P xs → Each Q (filter p xs)
  Each_kept follows [] all = tt
  Each_kept follows (x ∷ xs) all = filter_at x xs (p x) refl (follows x all.0) (Each_kept follows xs all.1)

module _ {X : Type 0} (P : X → Type 0) (p : X → Bool) where
  update_all_at : (f : X → X) (x : X) (xs : List X) (b : Bool) → P x → P (f x) → Each P xs → Each P (update_first p f xs)
      → Each P (if b then f x ∷ xs else x ∷ update_first p f xs)
  update_all_at f x xs true here changed all later = (changed, all)
  update_all_at f x xs false here changed all later = (here, later)

  pub Each_updated : (f : X → X) → ((x : X) → P x → P (f x)) → (xs : List X) → Each P xs → Each P (update_first p f xs)
  Each_updated f stays [] all = tt
  Each_updated f stays (x ∷ xs) all = update_all_at f x xs (p x) all.0 (stays x all.0) all.1 (Each_updated f stays xs all.1)

-- one of the elements, before and after a change of the list

pub Has_append : {X : Type 0} (x : X) (xs ys : List X) → Has x (xs ++ ys) → Has x xs ⊎ Has x ys
Has_append x [] ys h = inr h
Has_append x (y ∷ xs) ys (inl e) = inl (inl e)
Has_append x (y ∷ xs) ys (inr h) = either_behind (Has_append x xs ys h) where
  either_behind : Has x xs ⊎ Has x ys → Has x (y ∷ xs) ⊎ Has x ys
  either_behind (inl k) = inl (inr k)
  either_behind (inr k) = inr k

has_found_at : {X : Type 0} (p : X → Bool) (a x : X) (xs : List X) (b : Bool) → p a ≡ b → (find p xs ≡ Some x → Has x xs) → find p (a ∷ xs) ≡ Some x
    → Has x (a ∷ xs)
has_found_at p a x xs true e later h = let here : find p (a ∷ xs) ≡ Some a = find_here p a xs e in let same : x ≡ a = cc in inl same
has_found_at p a x xs false e later h = inr (later (sym (find_later p a xs e) ∙ h))

pub Has_found : {X : Type 0} (p : X → Bool) (x : X) (xs : List X) → find p xs ≡ Some x → Has x xs
Has_found p x [] h = cc
Has_found p x (a ∷ xs) h = has_found_at p a x xs (p a) refl (Has_found p x xs) h

-- an element of the images of those that pass is the image of one
module _ {X Y : Type 0} (p : X → Bool) (f : X → Y) (y : Y) where
  abbrev pub IsImageIn : List X → Type 0
  IsImageIn xs = (x : X) × Has x xs × (p x ≡ true) × (y ≡ f x)

  image_at : (a : X) (xs : List X) (b : Bool) → p a ≡ b → (Has y (map f (filter p xs)) → IsImageIn xs)
      → Has y (map f (if b then a ∷ filter p xs else filter p xs)) → IsImageIn (a ∷ xs)
  image_at a xs true e later (inl same) = (a, inl refl, e, same)
  image_at a xs true e later (inr h) = let found : IsImageIn xs = later h in (found.0, inr found.1, found.2, found.3)
  image_at a xs false e later h = let found : IsImageIn xs = later h in (found.0, inr found.1, found.2, found.3)

  pub Has_image : (xs : List X) → Has y (map f (filter p xs)) → IsImageIn xs
  Has_image [] h = absurd h
  Has_image (a ∷ xs) h = image_at a xs (p a) refl (Has_image xs) h

pub Each_mapped : {X Y : Type 0} (P : X → Type 0) (Q : Y → Type 0) (f : X → Y) → ((x : X) → P x → Q (f x)) → (xs : List X) → Each P xs → Each Q (map f xs)
Each_mapped P Q f follows [] all = tt
Each_mapped P Q f follows (x ∷ xs) all = (follows x all.0, Each_mapped P Q f follows xs all.1)

module _ {X : Type 0} (P : X → Type 0) (compare : X → X → Ordering) (new : X) where
  placed_all_at : (x : X) (xs : List X) (o : Ordering) → P new → P x → Each P xs → Each P (placed compare new xs)
      → Each P (match_ordering o (new ∷ x ∷ xs) (new ∷ xs) (x ∷ placed compare new xs))
  placed_all_at x xs Less one here all later = (one, (here, all))
  placed_all_at x xs Equal one here all later = (one, all)
  placed_all_at x xs Greater one here all later = (here, later)

  pub Each_placed : (xs : List X) → P new → Each P xs → Each P (placed compare new xs)
  Each_placed [] one all = (one, tt)
  Each_placed (x ∷ xs) one all = placed_all_at x xs (compare new x) one all.0 all.1 (Each_placed xs one all.1)
