-- what is done to a fork is done to its row, or to one of its sides
use Rattle.std.proofs.Common.{◌≡◌, ℕ, Bool, true, false, Option, None, Some, List, [], ◌∷◌, ◌++◌, not, refl, ap, sym, subst, ◌∙◌, arith}
use Rattle.std.specs.Prelude.{◌==◌, find, filter, map, if◌then◌else◌}
use Rattle.std.proofs.lemmas.Bool.Decides.{nat_tests}
use Rattle.radio_tables.specs.Lists.{update_first, Each}
use Rattle.radio_tables.proofs.FindLaws.{find_here, find_later}
use Rattle.radio_attachments.specs.declared.attachment.Attachment.{Attachment}
use Rattle.radio_attachments.specs.Rows.{is_attached, at_place, comes_before, IsBefore, AreInOrder, FoundIsVisited, IsVisitedIn}
use Rattle.std.proofs.lemmas.List.Elements.{filter-append}
use Rattle.radio_attachments.proofs.Sides.{found_left, found_right, changed_left, changed_right, gone_left, gone_right}
use Rattle.radio_attachments.proofs.Order.{none_behind, none_in_front, none_of_his, comes_after}

is_his : (x : Attachment) (id : ℕ) → x.id ≡ id → is_attached id x ≡ true
is_his x id e = grind (arith, nat_tests, e)

first_gone : (p : Attachment → Bool) (x : Attachment) (m : List Attachment) (b : Bool) → p x ≡ b → b ≡ true → filter (λ y. not (p y)) (x ∷ m) ≡ filter (λ y. not (p y)) m
first_gone p x m true e t = rw e refl
first_gone p x m false e t = cc

later_gone : (p : Attachment → Bool) (x : Attachment) (m : List Attachment) → p x ≡ false → filter (λ y. not (p y)) (x ∷ m) ≡ x ∷ filter (λ y. not (p y)) m
later_gone p x m e = rw e refl

module _ (id : ℕ) (l : List Attachment) (x : Attachment) (m : List Attachment) (h : AreInOrder (l ++ x ∷ m)) where
  abbrev his : Attachment → Bool
  his row = is_attached id row

  -- the row is its
  module _ (e : x.id ≡ id) where
    pub finds_here : find his (l ++ x ∷ m) ≡ Some x
    finds_here = found_right his l (x ∷ m) (none_of_his id l x m e h).0 ∙ find_here his x m (is_his x id e)

    pub changes_here : (f : Attachment → Attachment) → update_first his f (l ++ x ∷ m) ≡ l ++ f x ∷ m
    changes_here f = changed_right his f l (x ∷ m) (none_of_his id l x m e h).0 ∙ ap (λ ys. l ++ ys) first where
      first : update_first his f (x ∷ m) ≡ f x ∷ m
      first = let is = is_his x id e in rw is refl

    pub goes_here : filter (λ y. not (his y)) (l ++ x ∷ m) ≡ l ++ m
    goes_here =
        gone_right his l (x ∷ m) (none_of_his id l x m e h).0 ∙ ap (λ ys. l ++ ys) (first_gone his x m true (is_his x id e) refl ∙ rest) where
          stays : (y : Attachment) (ys : List Attachment) → his y ≡ false → filter (λ z. not (his z)) ys ≡ ys → filter (λ z. not (his z)) (y ∷ ys) ≡ y ∷ ys
          stays y ys apart_ later = later_gone his y ys apart_ ∙ ap (λ zs. y ∷ zs) later

          all_stay : (ys : List Attachment) → Each (λ y. his y ≡ false) ys → filter (λ z. not (his z)) ys ≡ ys
          all_stay [] none = refl
          all_stay (y ∷ ys) none = stays y ys none.0 (all_stay ys none.1)

          rest : filter (λ y. not (his y)) m ≡ m
          rest = all_stay m (none_of_his id l x m e h).1

  -- its row stands before it
  module _ (e : comes_before id x.id ≡ true) where
    pub finds_less : find his (l ++ x ∷ m) ≡ find his l
    finds_less = found_left his l (x ∷ m) (none_behind id l x m e h)

    pub changes_less : (f : Attachment → Attachment) → update_first his f (l ++ x ∷ m) ≡ update_first his f l ++ x ∷ m
    changes_less f = changed_left his f l (x ∷ m) (none_behind id l x m e h)

    pub goes_less : filter (λ y. not (his y)) (l ++ x ∷ m) ≡ filter (λ y. not (his y)) l ++ x ∷ m
    goes_less = gone_left his l (x ∷ m) (none_behind id l x m e h)

  -- or behind it
  module _ (apart : (id == x.id) ≡ false) (e : comes_before id x.id ≡ false) where
    after : comes_before x.id id ≡ true
    after = comes_after id x.id apart e

    other : his x ≡ false
    other = grind (arith, nat_tests, apart)

    pub finds_more : find his (l ++ x ∷ m) ≡ find his m
    finds_more = found_right his l (x ∷ m) (none_in_front id l x m after h) ∙ find_later his x m other

    pub changes_more : (f : Attachment → Attachment) → update_first his f (l ++ x ∷ m) ≡ l ++ x ∷ update_first his f m
    changes_more f = changed_right his f l (x ∷ m) (none_in_front id l x m after h) ∙ ap (λ ys. l ++ ys) (rw other refl)

    pub goes_more : filter (λ y. not (his y)) (l ++ x ∷ m) ≡ l ++ x ∷ filter (λ y. not (his y)) m
    goes_more = gone_right his l (x ∷ m) (none_in_front id l x m after h) ∙ ap (λ ys. l ++ ys) (later_gone his x m other)

-- rows that change, but not in number, stay in order
module _ (f : Attachment → Attachment) (same : (row : Attachment) → (f row).id ≡ row.id) where
  before_mapped : (x y : Attachment) → IsBefore x y → IsBefore (f x) (f y)
  before_mapped x y b = subst (λ (n : ℕ). comes_before n (f y).id ≡ true) (sym (same x)) (subst (λ (n : ℕ). comes_before x.id n ≡ true) (sym (same y)) b)

  each_mapped : (x : Attachment) (xs : List Attachment) → Each (IsBefore x) xs → Each (IsBefore (f x)) (map f xs)
  each_mapped x [] all = tt
  each_mapped x (y ∷ xs) all = (before_mapped x y all.0, each_mapped x xs all.1)

  pub in_order_mapped : (xs : List Attachment) → AreInOrder xs → AreInOrder (map f xs)
  in_order_mapped [] h = tt
  in_order_mapped (x ∷ xs) h = (each_mapped x xs h.0, in_order_mapped xs h.1)

  module _ (p : Attachment → Bool) where
    each_updated : (P : Attachment → Type 0) → ((row : Attachment) → P row → P (f row)) → (xs : List Attachment) → Each P xs → Each P (update_first p f xs)
    each_updated P on [] all = tt
    each_updated P on (x ∷ xs) all = by_test (p x) (each_updated P on xs all.1) where
      by_test : (b : Bool) → Each P (update_first p f xs) → Each P (if b then f x ∷ xs else x ∷ update_first p f xs)
      by_test true later = (on x all.0, all.1)
      by_test false later = (all.0, later)

    pub in_order_updated : (xs : List Attachment) → AreInOrder xs → AreInOrder (update_first p f xs)
    in_order_updated [] h = tt
    in_order_updated (x ∷ xs) h = by_test (p x) (in_order_updated xs h.1) where
      on : (row : Attachment) → IsBefore x row → IsBefore x (f row)
      on row b = subst (λ (n : ℕ). comes_before x.id n ≡ true) (sym (same row)) b

      from : (ys : List Attachment) → Each (IsBefore x) ys → Each (IsBefore (f x)) ys
      from [] all = tt
      from (y ∷ ys) all = (subst (λ (n : ℕ). comes_before n y.id ≡ true) (sym (same x)) all.0, from ys all.1)

      by_test : (b : Bool) → AreInOrder (update_first p f xs) → AreInOrder (if b then f x ∷ xs else x ∷ update_first p f xs)
      by_test true later = (from xs h.0, h.1)
      by_test false later = (each_updated (IsBefore x) on xs h.0, later)

-- so does one that is at another place
pub placed_in_order : (id place : ℕ) (rows rows' : List Attachment) → rows' ≡ update_first (is_attached id) (at_place place) rows → AreInOrder rows → AreInOrder rows'
placed_in_order id place rows rows' is h = subst AreInOrder (sym is) (in_order_updated (at_place place) (λ row. refl) (is_attached id) rows h)

-- rows that are taken away leave the others in order
pub each_filtered : (P : Attachment → Type 0) (q : Attachment → Bool) (xs : List Attachment) → Each P xs → Each P (filter q xs)
each_filtered P q [] all = tt
each_filtered P q (x ∷ xs) all = by_test (q x) (each_filtered P q xs all.1) where
  by_test : (b : Bool) → Each P (filter q xs) → Each P (if b then x ∷ filter q xs else filter q xs)
  by_test true later = (all.0, later)
  by_test false later = later

pub in_order_filtered : (q : Attachment → Bool) (xs : List Attachment) → AreInOrder xs → AreInOrder (filter q xs)
in_order_filtered q [] h = tt
in_order_filtered q (x ∷ xs) h = by_test (q x) (in_order_filtered q xs h.1) where
  by_test : (b : Bool) → AreInOrder (filter q xs) → AreInOrder (if b then x ∷ filter q xs else filter q xs)
  by_test true later = (each_filtered (IsBefore x) q xs h.0, later)
  by_test false later = later

pub mapped : (f : Attachment → Attachment) (l : List Attachment) (x : Attachment) (m : List Attachment) → map f (l ++ x ∷ m) ≡ map f l ++ f x ∷ map f m
mapped f [] x m = refl
mapped f (y ∷ l) x m = ap (λ ys. f y ∷ ys) (mapped f l x m)

-- the attachments on both sides that pass a test
module _ (p : Attachment → Bool) (l : List Attachment) (x : Attachment) (m : List Attachment) where
  pub splits_out : p x ≡ true → filter p (l ++ x ∷ m) ≡ filter p l ++ x ∷ filter p m
  splits_out e = filter-append p l (x ∷ m) ∙ ap (λ ys. filter p l ++ ys) (rw e refl)

  pub splits_apart : p x ≡ false → filter p (l ++ x ∷ m) ≡ filter p l ++ filter p m
  splits_apart e = filter-append p l (x ∷ m) ∙ ap (λ ys. filter p l ++ ys) (rw e refl)

-- the attachment that is found is visited
module _ {V A : Type 0} (Visits : V → ℕ → A → V → ℕ → Type 0) (id : ℕ) (visitor visitor' : V) where
  pub visited_here : (rows rows' : List Attachment) (row : Attachment) (place : ℕ) (a : A) → find (is_attached id) rows ≡ Some row
      → rows' ≡ update_first (is_attached id) (at_place place) rows → Visits visitor row.place a visitor' place
      → IsVisitedIn Visits id visitor rows (Some a) visitor' rows'
  visited_here rows rows' row place a found is visits = rw found (a, place, refl, is, visits)

  -- in a part of the rows, where nothing else changes
  pub visited_there : (rows rows' part part' : List Attachment) (answer : Option A) → find (is_attached id) rows ≡ find (is_attached id) part
      → ((place : ℕ) → part' ≡ update_first (is_attached id) (at_place place) part → rows' ≡ update_first (is_attached id) (at_place place) rows)
      → (part' ≡ part → rows' ≡ rows) → IsVisitedIn Visits id visitor part answer visitor' part' → IsVisitedIn Visits id visitor rows answer visitor' rows'
  visited_there rows rows' part part' answer found changed same visits = rw found (by_found (find (is_attached id) part) visits) where
    by_found : (row : Option Attachment) → FoundIsVisited Visits id visitor part answer visitor' part' row
        → FoundIsVisited Visits id visitor rows answer visitor' rows' row
    by_found None (no_answer, stays, is) = (no_answer, stays, same is)
    by_found (Some row) (a, place, given, is, visited) = (a, place, given, changed place is, visited)

  -- the rows stay in order
  pub visited_in_order : (rows rows' : List Attachment) (answer : Option A) → IsVisitedIn Visits id visitor rows answer visitor' rows' → AreInOrder rows
      → AreInOrder rows'
  visited_in_order rows rows' answer visits h = by_found (find (is_attached id) rows) visits where
    by_found : (row : Option Attachment) → FoundIsVisited Visits id visitor rows answer visitor' rows' row → AreInOrder rows'
    by_found None (no_answer, stays, is) = subst AreInOrder (sym is) h
    by_found (Some row) (a, place, given, is, visited) = placed_in_order id place rows rows' is h
