-- The place of each name in a list, found by name.
use Rattle.std.proofs.Common.{◌≡◌, Bool, true, false, cond, ℕ, ◌+◌, ◌<◌, List, [], ◌∷◌, ◌++◌, length, map, take, get_or, Option, None, Some, refl, ap, sym, ◌∙◌}
use Rattle.std.proofs.Common.{arith, append_assoc, length-append, eqb, is_some, ◌||◌}
use Rattle.std.proofs.lemmas.List.{take_more, length-take-le}
use Rattle.std.proofs.lemmas.Bool.{and_parts, eqb-true, false≢true}
use Rattle.std.proofs.lemmas.Map.Text.{is_eq-slice_cmp}
use Rattle.std.specs.BTreeMap.{BTreeMap, get, Updates}
use Rattle.std.specs.List.{find, position_from, slice_get}
use Rattle.std.specs.Option.{option_or, option_and_then}
use Rattle.std.specs.Str.{bytes_eq}
use Rattle.radio_settings_values.specs.Places.{HasPlaces, place_of}
use Rattle.radio_settings_values.specs.Repeats.{is_among}
use Rattle.radio_settings_values.proofs.RepeatLemmas.{Names, order, ties}

-- one name more
position_more : {A : Type 0} (p : A → Bool) (i : ℕ) (xs : List A) (y : A)
    → position_from p i (xs ++ y ∷ []) ≡ option_or (position_from p i xs) (cond (p y) (Some (i + length xs)) None)
position_more p i [] y = ap (λ (n : ℕ). cond (p y) (Some n) None) (omega arith)
position_more p i (x ∷ xs) y =
    elim (p x) as (λ b. cond b (Some i) (position_from p (i + 1) (xs ++ y ∷ []))
    ≡ option_or (cond b (Some i) (position_from p (i + 1) xs)) (cond (p y) (Some (i + length (x ∷ xs))) None)) [
      | true ↦ refl
      | false ↦ position_more p (i + 1) xs y ∙ ap (λ (n : ℕ). option_or (position_from p (i + 1) xs) (cond (p y) (Some n) None)) (omega arith)
    ]

slice_get-behind : {A : Type 0} (front xs : List A) (x : A) → slice_get (front ++ x ∷ xs) (length front) ≡ Some x
slice_get-behind [] xs x = refl
slice_get-behind (y ∷ front) xs x = slice_get-behind front xs x

-- what stands at the place of a name
found_behind : {A B : Type 0} (f : A → B) (p : B → Bool) (front xs : List A) (i : ℕ) → i ≡ length front
    → option_and_then (λ k. slice_get (front ++ xs) k) (position_from p i (map f xs)) ≡ find (λ x. p (f x)) xs
found_behind f p front [] i is = refl
found_behind f p front (x ∷ xs) i is = elim (p (f x)) as
    (λ b. option_and_then (λ k. slice_get (front ++ x ∷ xs) k) (cond b (Some i) (position_from p (i + 1) (map f xs)))
    ≡ cond b (Some x) (find (λ y. p (f y)) xs)) [
      | true ↦ ap (λ (k : ℕ). slice_get (front ++ x ∷ xs) k) is ∙ slice_get-behind front xs x
      | false ↦ ap (λ ys. option_and_then (λ k. slice_get ys k) (position_from p (i + 1) (map f xs))) (sym (append_assoc front (x ∷ []) xs))
          ∙ found_behind f p (front ++ x ∷ []) xs (i + 1) (omega (arith, length-append front (x ∷ [])))
    ]

pub found_at_place : {A : Type 0} (f : A → List ℕ) (xs : List A) (q : List ℕ)
    → option_and_then (λ k. slice_get xs k) (place_of (map f xs) q) ≡ find (λ x. bytes_eq (f x) q) xs
found_at_place f xs q = found_behind f (λ name. bytes_eq name q) [] xs 0 refl

or_none : {A : Type 0} (x : Option A) → x ≡ option_or x None
or_none None = refl
or_none (Some x) = refl

either_way : (b : Bool) (g : Option ℕ) (i : ℕ) → (b ≡ true → g ≡ None) → cond b (Some i) g ≡ option_or g (cond b (Some i) None)
either_way true g i new = ap (λ o. option_or o (Some i)) (sym (new refl))
either_way false g i new = or_none g

same_bytes : (xs ys : List ℕ) → bytes_eq xs ys ≡ true → xs ≡ ys
same_bytes [] [] h = refl
same_bytes [] (y ∷ ys) h = absurd (false≢true h)
same_bytes (x ∷ xs) [] h = absurd (false≢true h)
same_bytes (x ∷ xs) (y ∷ ys) h =
    let p = and_parts (eqb x y) (bytes_eq xs ys) h in
    ap (λ (b : ℕ). b ∷ xs) (eqb-true x y p.0) ∙ ap (λ u. y ∷ u) (same_bytes xs ys p.1)

pub none_from_not_some : {A : Type 0} (o : Option A) → is_some o ≡ false → o ≡ None
none_from_not_some None h = refl
none_from_not_some (Some x) h = absurd (false≢true (sym h))

-- one name more has its place
pub places_more : (names : Names) (i : ℕ) (name : List ℕ) (old new : BTreeMap (List ℕ) ℕ) → i < length names → name ≡ get_or names i name
    → get order old name ≡ None → Updates order old new name (Some i) → HasPlaces old (take i names) → HasPlaces new (take (i + 1) names)
places_more names i name old new low is absent updates has q =
    let p = λ (n : List ℕ). bytes_eq n q in
    let long : 0 + length (take i names) ≡ i = omega (arith, length-take-le i names (omega arith)) in
    updates.0 q
    ∙ ap (λ b. cond b (Some i) (get order old q)) (is_eq-slice_cmp name q)
    ∙ either_way (bytes_eq name q) (get order old q) i (λ same. ap (get order old) (sym (same_bytes name q same)) ∙ absent)
    ∙ ap (λ o. option_or o (cond (bytes_eq name q) (Some i) None)) (has q)
    ∙ ap (λ (k : ℕ). option_or (place_of (take i names) q) (cond (bytes_eq name q) (Some k) None)) (sym long)
    ∙ sym (position_more p 0 (take i names) name)
    ∙ ap (λ ns. place_of ns q) (ap (λ n. take i names ++ n ∷ []) is ∙ sym (take_more names i name low))

either_among : (b : Bool) (i : ℕ) (o : Option ℕ) → is_some (cond b (Some i) o) ≡ (b || is_some o)
either_among true i o = refl
either_among false i o = refl

-- a name has a place exactly where it is among the names
among_place : (names : Names) (i : ℕ) (q : List ℕ) → is_some (position_from (λ name. bytes_eq name q) i names) ≡ is_among names q
among_place [] i q = refl
among_place (n ∷ names) i q =
    ap (λ b. is_some (cond b (Some i) (position_from (λ name. bytes_eq name q) (i + 1) names))) (sym (is_eq-slice_cmp n q) ∙ ties n q)
    ∙ either_among (bytes_eq q n) i (position_from (λ name. bytes_eq name q) (i + 1) names)
    ∙ ap (λ b. bytes_eq q n || b) (among_place names (i + 1) q)

pub among_passed : (names : Names) (i : ℕ) (name : List ℕ) (places : BTreeMap (List ℕ) ℕ) → HasPlaces places (take i names)
    → is_some (get order places name) ≡ is_among (take i names) name
among_passed names i name places has = ap is_some (has name) ∙ among_place (take i names) 0 name
