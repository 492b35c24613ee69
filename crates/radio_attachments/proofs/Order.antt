-- rows in the order of their numbers
use Rattle.std.proofs.Common.{◌≡◌, ℕ, Bool, true, false, List, [], ◌∷◌, ◌++◌, refl, ap, sym, subst, ◌∙◌, arith}
use Rattle.std.specs.Prelude.{◌==◌, if◌then◌else◌}
use Rattle.std.proofs.lemmas.Bool.Decides.{nat_tests}
use Rattle.std.proofs.lemmas.Bool.{eqb-true}
use Rattle.radio_tables.specs.Lists.{Each}
use Rattle.radio_tables.proofs.EachLaws.{Each_each}
use Rattle.radio_attachments.specs.declared.attachment.Attachment.{Attachment}
use Rattle.radio_attachments.specs.Rows.{is_attached, comes_before, IsBefore, AreInOrder, put_in}

pub is_apart : (one other : ℕ) → comes_before one other ≡ true → (other == one) ≡ false
is_apart one other e = grind (arith, nat_tests, e)

pub goes_on : (one other third : ℕ) → comes_before one other ≡ true → comes_before other third ≡ true → comes_before one third ≡ true
goes_on one other third e f = grind (arith, nat_tests, e, f)

pub comes_after : (one other : ℕ) → (one == other) ≡ false → comes_before one other ≡ false → comes_before other one ≡ true
comes_after one other e f = grind (arith, nat_tests, e, f)

-- parts of a list in order
each_front : (P : Attachment → Type 0) (l m : List Attachment) → Each P (l ++ m) → Each P l
each_front P [] m all = tt
each_front P (x ∷ l) m all = (all.0, each_front P l m all.1)

each_middle : (P : Attachment → Type 0) (l : List Attachment) (x : Attachment) (m : List Attachment) → Each P (l ++ x ∷ m) → P x
each_middle P [] x m all = all.0
each_middle P (y ∷ l) x m all = each_middle P l x m all.1

pub front : (l m : List Attachment) → AreInOrder (l ++ m) → AreInOrder l
front [] m h = tt
front (x ∷ l) m h = (each_front (IsBefore x) l m h.0, front l m h.1)

pub back : (l m : List Attachment) → AreInOrder (l ++ m) → AreInOrder m
back [] m h = h
back (x ∷ l) m h = back l m h.1

-- all in front come before the one in the middle
pub all_before : (l : List Attachment) (x : Attachment) (m : List Attachment) → AreInOrder (l ++ x ∷ m) → Each (λ y. IsBefore y x) l
all_before [] x m h = tt
all_before (y ∷ l) x m h = (each_middle (IsBefore y) l x m h.0, all_before l x m h.1)

-- who comes before the one in the middle is not behind, and who comes after it not in front
pub none_behind : (id : ℕ) (l : List Attachment) (x : Attachment) (m : List Attachment) → comes_before id x.id ≡ true → AreInOrder (l ++ x ∷ m)
    → Each (λ y. is_attached id y ≡ false) (x ∷ m)
none_behind id l x m e h =
    let there = back l (x ∷ m) h in
    (is_apart id x.id e, Each_each (IsBefore x) (λ y. is_attached id y ≡ false) (λ y b. is_apart id y.id (goes_on id x.id y.id e b)) m there.0)

apart_too : (one other : ℕ) → comes_before one other ≡ true → (one == other) ≡ false
apart_too one other e = by_test (one == other) refl where
  by_test : (b : Bool) → (one == other) ≡ b → b ≡ false
  by_test false same = refl
  by_test true same =
      let is : one ≡ other = eqb-true one other same in
      let back_there : (other == one) ≡ false = is_apart one other e in
      let self : (other == other) ≡ false = subst (λ (n : ℕ). (other == n) ≡ false) is back_there in
      grind (arith, nat_tests, self)

pub none_in_front : (id : ℕ) (l : List Attachment) (x : Attachment) (m : List Attachment) → comes_before x.id id ≡ true → AreInOrder (l ++ x ∷ m)
    → Each (λ y. is_attached id y ≡ false) l
none_in_front id l x m e h =
    Each_each (λ y. IsBefore y x) (λ y. is_attached id y ≡ false) (λ y b. apart_too y.id id (goes_on y.id x.id id b e)) l (all_before l x m h)

pub none_of_his : (id : ℕ) (l : List Attachment) (x : Attachment) (m : List Attachment) → x.id ≡ id → AreInOrder (l ++ x ∷ m)
    → Each (λ y. is_attached id y ≡ false) l × Each (λ y. is_attached id y ≡ false) m
none_of_his id l x m e h = (
  Each_each (λ y. IsBefore y x) (λ y. is_attached id y ≡ false) (λ y b. apart_too y.id id (subst (λ (n : ℕ). comes_before y.id n ≡ true) e b)) l (all_before l x m h),
  Each_each (IsBefore x) (λ y. is_attached id y ≡ false) (λ y b. is_apart id y.id (subst (λ (n : ℕ). comes_before n y.id ≡ true) e b)) m (back l (x ∷ m) h).0,
)

-- a row comes in
put_here : (new x : Attachment) (m : List Attachment) (b : Bool) → (new.id == x.id) ≡ b → b ≡ true → put_in new (x ∷ m) ≡ new ∷ m
put_here new x m true e t = rw e refl
put_here new x m false e t = cc

put_first : (new x : Attachment) (m : List Attachment) → comes_before new.id x.id ≡ true → put_in new (x ∷ m) ≡ new ∷ x ∷ m
put_first new x m e = rw (apart_too new.id x.id e, e) refl

put_later : (new x : Attachment) (m : List Attachment) → comes_before x.id new.id ≡ true → put_in new (x ∷ m) ≡ x ∷ put_in new m
put_later new x m e = rw (is_apart x.id new.id e, not_back) refl where
  not_back : comes_before new.id x.id ≡ false
  not_back = by_test (comes_before new.id x.id) refl where
    by_test : (b : Bool) → comes_before new.id x.id ≡ b → b ≡ false
    by_test false f = refl
    by_test true f =
        let round : comes_before x.id x.id ≡ true = goes_on x.id new.id x.id e f in
        let no : (x.id == x.id) ≡ false = is_apart x.id x.id round in
        grind (arith, nat_tests, no)

pub put_left : (new : Attachment) (l : List Attachment) (x : Attachment) (m : List Attachment) → comes_before new.id x.id ≡ true
    → put_in new (l ++ x ∷ m) ≡ put_in new l ++ x ∷ m
put_left new [] x m e = put_first new x m e
put_left new (y ∷ l) x m e = by_tests (new.id == y.id) (comes_before new.id y.id) (put_left new l x m e) where
  by_tests : (b c : Bool) → put_in new (l ++ x ∷ m) ≡ put_in new l ++ x ∷ m
      → (if b then new ∷ (l ++ x ∷ m) else if c then new ∷ y ∷ (l ++ x ∷ m) else y ∷ put_in new (l ++ x ∷ m))
      ≡ (if b then new ∷ l else if c then new ∷ y ∷ l else y ∷ put_in new l) ++ x ∷ m
  by_tests true c later = refl
  by_tests false true later = refl
  by_tests false false later = ap (λ zs. y ∷ zs) later

pub put_right : (new : Attachment) (l : List Attachment) (x : Attachment) (m : List Attachment) → comes_before x.id new.id ≡ true → AreInOrder (l ++ x ∷ m)
    → put_in new (l ++ x ∷ m) ≡ l ++ x ∷ put_in new m
put_right new [] x m e h = put_later new x m e
put_right new (y ∷ l) x m e h =
    put_later new y (l ++ x ∷ m) (goes_on y.id x.id new.id (each_middle (IsBefore y) l x m h.0) e) ∙ ap (λ zs. y ∷ zs) (put_right new l x m e h.1)

pub put_there : (new : Attachment) (l : List Attachment) (x : Attachment) (m : List Attachment) → new.id ≡ x.id → AreInOrder (l ++ x ∷ m)
    → put_in new (l ++ x ∷ m) ≡ l ++ new ∷ m
put_there new [] x m e h = put_here new x m (new.id == x.id) refl (grind (arith, nat_tests, e))
put_there new (y ∷ l) x m e h =
    put_later new y (l ++ x ∷ m) (subst (λ (n : ℕ). comes_before y.id n ≡ true) (sym e) (each_middle (IsBefore y) l x m h.0))
    ∙ ap (λ zs. y ∷ zs) (put_there new l x m e h.1)

pub each_put : (P : Attachment → Type 0) (new : Attachment) (xs : List Attachment) → P new → Each P xs → Each P (put_in new xs)
each_put P new [] his all = (his, tt)
each_put P new (x ∷ xs) his all = by_tests (new.id == x.id) (comes_before new.id x.id) (each_put P new xs his all.1) where
  by_tests : (b c : Bool) → Each P (put_in new xs) → Each P (if b then new ∷ xs else if c then new ∷ x ∷ xs else x ∷ put_in new xs)
  by_tests true c later = (his, all.1)
  by_tests false true later = (his, all)
  by_tests false false later = (all.0, later)

pub in_order_put : (new : Attachment) (xs : List Attachment) → AreInOrder xs → AreInOrder (put_in new xs)
in_order_put new [] h = (tt, tt)
in_order_put new (x ∷ xs) h = by_tests (new.id == x.id) refl (comes_before new.id x.id) refl (in_order_put new xs h.1) where
  by_tests : (b : Bool) → (new.id == x.id) ≡ b → (c : Bool) → comes_before new.id x.id ≡ c → AreInOrder (put_in new xs)
      → AreInOrder (if b then new ∷ xs else if c then new ∷ x ∷ xs else x ∷ put_in new xs)
  by_tests true e c f later =
      let same : new.id ≡ x.id = eqb-true new.id x.id e in
      (Each_each (IsBefore x) (IsBefore new) (λ y b. subst (λ (n : ℕ). comes_before n y.id ≡ true) (sym same) b) xs h.0, h.1)
  by_tests false e true f later = ((f, Each_each (IsBefore x) (IsBefore new) (λ y b. goes_on new.id x.id y.id f b) xs h.0), h)
  by_tests false e false f later = (each_put (IsBefore x) new xs (comes_after new.id x.id e f) h.0, later)

-- rows that are behind a row, with those behind all of them
pub behind_row : (l : List Attachment) (x : Attachment) (m n : List Attachment) → AreInOrder ((l ++ x ∷ m) ++ n) → AreInOrder (m ++ n)
behind_row [] x m n h = h.1
behind_row (y ∷ l) x m n h = behind_row l x m n h.1

-- rows that are before a row, with those before all of them
pub before_row : (n l : List Attachment) (x : Attachment) (m : List Attachment) → AreInOrder (n ++ (l ++ x ∷ m)) → AreInOrder (n ++ l)
before_row [] l x m h = front l (x ∷ m) h
before_row (y ∷ n) l x m h = (each_before n h.0, before_row n l x m h.1) where
  each_before : (n : List Attachment) → Each (IsBefore y) (n ++ (l ++ x ∷ m)) → Each (IsBefore y) (n ++ l)
  each_before [] all = each_front (IsBefore y) l (x ∷ m) all
  each_before (z ∷ n) all = (all.0, each_before n all.1)
