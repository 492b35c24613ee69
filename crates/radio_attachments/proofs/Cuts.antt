-- rows in order, cut at a number
use Rattle.std.proofs.Common.{◌≡◌, ℕ, Bool, true, false, List, [], ◌∷◌, ◌++◌, refl, ap, sym, subst, ◌∙◌, arith, append-nil}
use Rattle.std.specs.Prelude.{◌==◌, filter, nat_lt, if◌then◌else◌}
use Rattle.std.proofs.lemmas.Bool.{eqb-true}
use Rattle.std.proofs.lemmas.Bool.Decides.{nat_tests}
use Rattle.std.proofs.lemmas.List.Elements.{filter-append}
use Rattle.radio_tables.specs.Lists.{Each}
use Rattle.radio_tables.proofs.EachLaws.{Each_each}
use Rattle.radio_attachments.specs.declared.attachment.Attachment.{Attachment}
use Rattle.radio_attachments.specs.Rows.{comes_before, IsBefore, AreInOrder, put_in}
use Rattle.radio_attachments.proofs.Bounds.{none_pass}
use Rattle.radio_attachments.proofs.Order.{all_before, back, goes_on, comes_after}

abbrev pub under : ℕ → Attachment → Bool
under id row = nat_lt row.id id

abbrev pub over : ℕ → Attachment → Bool
over id row = nat_lt id row.id

module _ (p : Attachment → Bool) where
  all_pass_at : (x : Attachment) (xs : List Attachment) (b : Bool) → b ≡ true → filter p xs ≡ xs → (if b then x ∷ filter p xs else filter p xs) ≡ x ∷ xs
  all_pass_at x xs true e later = ap (λ ys. x ∷ ys) later
  all_pass_at x xs false e later = cc

  all_pass : (xs : List Attachment) → Each (λ row. p row ≡ true) xs → filter p xs ≡ xs
  all_pass [] all = refl
  all_pass (x ∷ xs) all = all_pass_at x xs (p x) all.0 (all_pass xs all.1)

  -- a list in three parts, each of which passes or does not
  parts : (l : List Attachment) (x : Attachment) (m l' m' : List Attachment) → filter p l ≡ l' → filter p (x ∷ m) ≡ m' → filter p (l ++ x ∷ m) ≡ l' ++ m'
  parts l x m l' m' left right = filter-append p l (x ∷ m) ∙ ap (λ ys. ys ++ filter p (x ∷ m)) left ∙ ap (λ ys. l' ++ ys) right

not_under : (id n : ℕ) → comes_before id n ≡ true → nat_lt n id ≡ false
not_under id n e = grind (arith, nat_tests, e)

-- a number that is neither before nor behind it is its own
pub neither : (id n : ℕ) → comes_before id n ≡ false → comes_before n id ≡ false → n ≡ id
neither id n e f = grind (arith, nat_tests, e, f)

module _ (id : ℕ) (l : List Attachment) (x : Attachment) (m : List Attachment) (h : AreInOrder (l ++ x ∷ m)) where
  behind : Each (IsBefore x) m
  behind = (back l (x ∷ m) h).0

  in_front : Each (λ y. IsBefore y x) l
  in_front = all_before l x m h

  -- the number is before the row
  module _ (e : comes_before id x.id ≡ true) where
    all_over : Each (λ y. over id y ≡ true) m
    all_over = Each_each (IsBefore x) (λ y. over id y ≡ true) (λ y b. goes_on id x.id y.id e b) m behind

    none_under : Each (λ y. under id y ≡ false) m
    none_under = Each_each (λ y. over id y ≡ true) (λ y. under id y ≡ false) (λ y b. not_under id y.id b) m all_over

    pub under_first : filter (under id) (l ++ x ∷ m) ≡ filter (under id) l
    under_first = parts (under id) l x m (filter (under id) l) [] refl (none_pass (under id) (x ∷ m) (not_under id x.id e, none_under)) ∙ append-nil _

    pub over_first : filter (over id) (l ++ x ∷ m) ≡ filter (over id) l ++ x ∷ m
    over_first = parts (over id) l x m (filter (over id) l) (x ∷ m) refl (all_pass (over id) (x ∷ m) (e, all_over))

  -- or behind it
  module _ (e : comes_before x.id id ≡ true) where
    all_under : Each (λ y. under id y ≡ true) l
    all_under = Each_each (λ y. IsBefore y x) (λ y. under id y ≡ true) (λ y b. goes_on y.id x.id id b e) l in_front

    none_over : Each (λ y. over id y ≡ false) l
    none_over = Each_each (λ y. under id y ≡ true) (λ y. over id y ≡ false) (λ y b. not_under y.id id b) l all_under

    pub under_later : filter (under id) (l ++ x ∷ m) ≡ l ++ x ∷ filter (under id) m
    under_later = parts (under id) l x m l (x ∷ filter (under id) m) (all_pass (under id) l all_under) (rw e refl)

    pub over_later : filter (over id) (l ++ x ∷ m) ≡ filter (over id) m
    over_later = parts (over id) l x m [] (filter (over id) m) (none_pass (over id) l none_over) (let no = not_under x.id id e in rw no refl)

  -- or it is the row's
  module _ (e : x.id ≡ id) where
    equal : nat_lt x.id id ≡ false
    equal = grind (arith, nat_tests, e)

    equal_too : nat_lt id x.id ≡ false
    equal_too = grind (arith, nat_tests, e)

    before_it : Each (λ y. under id y ≡ true) l
    before_it = Each_each (λ y. IsBefore y x) (λ y. under id y ≡ true) (λ y b. subst (λ (n : ℕ). comes_before y.id n ≡ true) e b) l in_front

    behind_it : Each (λ y. over id y ≡ true) m
    behind_it = Each_each (IsBefore x) (λ y. over id y ≡ true) (λ y b. subst (λ (n : ℕ). comes_before n y.id ≡ true) e b) m behind

    none_under_it : Each (λ y. under id y ≡ false) (x ∷ m)
    none_under_it = (equal, Each_each (λ y. over id y ≡ true) (λ y. under id y ≡ false) (λ y b. not_under id y.id b) m behind_it)

    none_over_it : Each (λ y. over id y ≡ false) l
    none_over_it = Each_each (λ y. under id y ≡ true) (λ y. over id y ≡ false) (λ y b. not_under y.id id b) l before_it

    pub under_it : filter (under id) (l ++ x ∷ m) ≡ l
    under_it = parts (under id) l x m l [] (all_pass (under id) l before_it) (none_pass (under id) (x ∷ m) none_under_it) ∙ append-nil _

    pub over_it : filter (over id) (l ++ x ∷ m) ≡ m
    over_it = parts (over id) l x m [] m (none_pass (over id) l none_over_it) (rw equal_too (all_pass (over id) m behind_it))

-- a row is put between the two parts of a cut
pub put_between : (new : Attachment) (rows : List Attachment) → AreInOrder rows
    → filter (under new.id) rows ++ new ∷ filter (over new.id) rows ≡ put_in new rows
put_between new [] h = refl
put_between new (x ∷ rows) h = by_tests (new.id == x.id) refl (comes_before new.id x.id) refl (put_between new rows h.1) where
  by_tests : (b : Bool) → (new.id == x.id) ≡ b → (c : Bool) → comes_before new.id x.id ≡ c
      → filter (under new.id) rows ++ new ∷ filter (over new.id) rows ≡ put_in new rows
      → filter (under new.id) (x ∷ rows) ++ new ∷ filter (over new.id) (x ∷ rows) ≡ (if b then new ∷ rows else if c then new ∷ x ∷ rows else x ∷ put_in new rows)
  by_tests true e c f later =
      let same : x.id ≡ new.id = sym (eqb-true new.id x.id e) in
      ap (λ ys. ys ++ new ∷ filter (over new.id) (x ∷ rows)) (under_it new.id [] x rows h same) ∙ ap (λ ys. new ∷ ys) (over_it new.id [] x rows h same)
  by_tests false e true f later =
      ap (λ ys. ys ++ new ∷ filter (over new.id) (x ∷ rows)) (under_first new.id [] x rows h f) ∙ ap (λ ys. new ∷ ys) (over_first new.id [] x rows h f)
  by_tests false e false f later =
      let after = comes_after new.id x.id e f in
      ap (λ ys. ys ++ new ∷ filter (over new.id) (x ∷ rows)) (under_later new.id [] x rows h after)
      ∙ ap (λ ys. x ∷ filter (under new.id) rows ++ new ∷ ys) (over_later new.id [] x rows h after) ∙ ap (λ ys. x ∷ ys) later
