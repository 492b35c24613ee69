-- the index of the rows by user, after each change of the rows, and what is found by it
use Rattle.std.proofs.Common.{◌≡◌, Bool, true, false, ℕ, ◌==◌, ◌||◌, Option, Some, None, List, [], ◌∷◌, inl, inr, not, refl, ap, sym, subst, ◌∙◌, arith}
use Rattle.radio_seats.proofs.Words.{◌&&◌, find, filter, map, if◌then◌else◌, is_at, BTreeSet, both_ways, list_any, AllByRecursion, IsStrictlySortedBy, option_map, nat_cmp, eqb-true, nat_tests, bytes_eq-Decides}
use Rattle.radio_seats.proofs.Words.{update_first, placed, Has, find_here, find_later, find_mapped, find_others, find_removed, found_has, ListenerRow, RowState, Seated, Ended, is_row, user_state, has_user, user_sent}
use Rattle.radio_seats.proofs.Words.{is_user, UserTree, entry_of, has_number, numbers_in, is_kept, user_in, IsUserOf, HasItsUser, AreKept, is_own, is_other, is_other_in, same_number}
use Rattle.std.specs.declared.cmp.Ordering.TheVariants.{Less}
use Rattle.std.proofs.lemmas.Cmp.{nat_cmp_total}
use Rattle.std.proofs.lemmas.Map.Keys.{sorted_head, sorted_tail}
use Rattle.radio_creds.specs.Credentials.{Credentials}
use Rattle.radio_tables.proofs.EachLaws.{Each_kept, Each_mapped, Each_placed, Each_updated, Has_found}
use Rattle.radio_tables.proofs.KeyLaws.{find_placed, number_is}
use Rattle.radio_seats.proofs.UserTrees.{is_same}

and_right : (b c : Bool) → (b && c) ≡ true → c ≡ true
and_right true c e = e
and_right false c e = cc

-- the row's listener is of the same user later, or has lost its seat
pub record IsSameUser (row later : ListenerRow) : Type 0 where
  pub user : later.user ≡ row.user
  pub own : HasItsUser row → HasItsUser later

-- a row that is changed so that its listener's user stays
module _ (f : ListenerRow → ListenerRow) (same_id : (row : ListenerRow) → (f row).id ≡ row.id) (same : (row : ListenerRow) → IsSameUser row (f row)) where
  module _ (k : ℕ) where
    head_by : (row : ListenerRow) (found : Option ListenerRow) (c : Bool)
        → user_in (if c then Some (f row) else found) ≡ user_in (if c then Some row else found)
    head_by row found true = (same row).user
    head_by row found false = refl

    tail_by : (row : ListenerRow) (found later : Option ListenerRow) (c : Bool) → user_in later ≡ user_in found
        → user_in (if c then Some row else later) ≡ user_in (if c then Some row else found)
    tail_by row found later true e = refl
    tail_by row found later false e = e

    updated_at : (q : ListenerRow → Bool) (row : ListenerRow) (rows : List ListenerRow) (b : Bool)
        → user_in (find (is_row k) (update_first q f rows)) ≡ user_in (find (is_row k) rows)
        → user_in (find (is_row k) (if b then f row ∷ rows else row ∷ update_first q f rows)) ≡ user_in (find (is_row k) (row ∷ rows))
    updated_at q row rows true later =
        ap (λ n. user_in (if n == k then Some (f row) else find (is_row k) rows)) (same_id row) ∙ head_by row (find (is_row k) rows) (is_row k row)
    updated_at q row rows false later = tail_by row (find (is_row k) rows) (find (is_row k) (update_first q f rows)) (is_row k row) later

    user_updated : (q : ListenerRow → Bool) (rows : List ListenerRow) → user_in (find (is_row k) (update_first q f rows)) ≡ user_in (find (is_row k) rows)
    user_updated q [] = refl
    user_updated q (row ∷ rows) = updated_at q row rows (q row) (user_updated q rows)

    user_changed : (found : Option ListenerRow) → user_in (option_map f found) ≡ user_in found
    user_changed None = refl
    user_changed (Some row) = (same row).user

    user_mapped : (rows : List ListenerRow) → user_in (find (is_row k) (map f rows)) ≡ user_in (find (is_row k) rows)
    user_mapped rows = ap user_in (find_mapped (is_row k) f (λ row. ap (λ n. n == k) (same_id row)) rows) ∙ user_changed (find (is_row k) rows)

  module _ (seats : UserTree) (rows : List ListenerRow) (are : AreKept seats rows) where
    pub kept_updated : (q : ListenerRow → Bool) → AreKept seats (update_first q f rows)
    kept_updated q = record {
      own = Each_updated HasItsUser q f (λ row is. (same row).own is) rows are.own;
      kept = λ user k. are.kept user k ∙ ap (is_user user) (sym (user_updated k q rows));
    }

    pub kept_mapped : AreKept seats (map f rows)
    kept_mapped = record {
      own = Each_mapped HasItsUser HasItsUser f (λ row is. (same row).own is) rows are.own;
      kept = λ user k. are.kept user k ∙ ap (is_user user) (sym (user_mapped k rows));
    }

-- an index that keeps the same
pub kept_still : (seats later : UserTree) (rows : List ListenerRow) → AreKept seats rows
    → ((user : List ℕ) (k : ℕ) → is_kept later user k ≡ is_kept seats user k) → AreKept later rows
kept_still seats later rows are same = record { own = are.own; kept = λ user k. same user k ∙ are.kept user k }

module _ (seats : UserTree) (rows : List ListenerRow) (are : AreKept seats rows) (id : ℕ) (before : Option (List ℕ))
    (is : before ≡ user_in (find (is_row id) rows)) where
  -- under which user the listener of this number is kept
  kept_before : (user : List ℕ) (k : ℕ) → (id == k) ≡ true → is_kept seats user k ≡ is_user user before
  kept_before user k e =
      are.kept user k ∙ ap (λ n. is_user user (user_in (find (is_row n) rows))) (sym (eqb-true id k e)) ∙ ap (is_user user) (sym is)

  not_his : (k : ℕ) → (id == k) ≡ false → (row : ListenerRow) → is_row id row ≡ true → is_row k row ≡ false
  not_his k other row e = ap (λ n. n == k) (eqb-true row.id id e) ∙ other

  -- a row that goes
  module _ (later : UserTree)
      (takes : (user : List ℕ) (k : ℕ) → is_kept later user k ≡ (is_kept seats user k && not ((id == k) && is_user user before && not (is_user user None)))) where
    gone_here : (b : Bool) → (b && not (b && true)) ≡ false
    gone_here true = refl
    gone_here false = refl

    stays_here : (b : Bool) → (b && true) ≡ b
    stays_here true = refl
    stays_here false = refl

    left_by : (user : List ℕ) (k : ℕ) (c : Bool) → (id == k) ≡ c → (is_kept seats user k && not (c && is_user user before && not (is_user user None)))
        ≡ is_user user (user_in (find (is_row k) (filter (λ row. not (is_row id row)) rows)))
    left_by user k true e =
        ap (λ b. b && not (is_user user before && true)) (kept_before user k e)
        ∙ gone_here (is_user user before)
        ∙ sym (ap (λ found. is_user user (user_in found)) (ap (λ n. find (is_row n) (filter (λ row. not (is_row id row)) rows)) (sym (eqb-true id k e))
        ∙ find_removed (is_row id) (is_row id) rows))
    left_by user k false e =
        stays_here (is_kept seats user k) ∙ are.kept user k
        ∙ sym (ap (λ found. is_user user (user_in found)) (find_others (is_row k) (is_row id) (not_his k e) rows))

    pub kept_left : AreKept later (filter (λ row. not (is_row id row)) rows)
    kept_left = record {
      own = Each_kept HasItsUser HasItsUser (λ row. not (is_row id row)) (λ row m e. m) rows are.own;
      kept = λ user k. takes user k ∙ left_by user k (id == k) refl;
    }

  -- a row that comes
  module _ (more : UserTree) (user' : Option (List ℕ))
      (adds : (user : List ℕ) (k : ℕ) → is_kept more user k ≡ (is_kept seats user k || ((id == k) && is_user user user'))) where
    new_here : (b m : Bool) → ((b || m) && not (b && not m)) ≡ m
    new_here true true = refl
    new_here true false = refl
    new_here false true = refl
    new_here false false = refl

    old_here : (b m : Bool) → ((b || m) && not (m && not b)) ≡ b
    old_here true true = refl
    old_here true false = refl
    old_here false true = refl
    old_here false false = refl

    stays_there : (b : Bool) → ((b || false) && true) ≡ b
    stays_there true = refl
    stays_there false = refl

    pub kept_placed : (later : UserTree)
        → ((user : List ℕ) (k : ℕ) → is_kept later user k ≡ (is_kept more user k && not ((id == k) && is_user user before && not (is_user user user'))))
        → (row : ListenerRow) → row.id ≡ id → row.user ≡ user' → HasItsUser row → AreKept later (placed (λ (a b : ListenerRow). nat_cmp a.id b.id) row rows)
    kept_placed later takes row his its owns = record {
      own = Each_placed HasItsUser (λ (a b : ListenerRow). nat_cmp a.id b.id) row rows owns are.own;
      kept = λ user k.
          takes user k
          ∙ ap (λ b. b && not ((id == k) && is_user user before && not (is_user user user'))) (adds user k)
          ∙ placed_by user k (id == k) refl
          ∙ sym (ap (λ found. is_user user (user_in found))
          (find_placed nat_cmp nat_cmp_total (λ (x : ListenerRow). x.id) is_row (λ n x. number_is n x.id) k row rows)
          ∙ ap (λ n. is_user user (user_in (if n == k then Some row else find (is_row k) rows))) his);
    } where
      placed_by : (user : List ℕ) (k : ℕ) (c : Bool) → (id == k) ≡ c
          → ((is_kept seats user k || (c && is_user user user')) && not (c && is_user user before && not (is_user user user')))
          ≡ is_user user (user_in (if c then Some row else find (is_row k) rows))
      placed_by user k true e =
          ap (λ b. (b || is_user user user') && not (is_user user before && not (is_user user user'))) (kept_before user k e)
          ∙ new_here (is_user user before) (is_user user user') ∙ ap (is_user user) (sym its)
      placed_by user k false e = stays_there (is_kept seats user k) ∙ are.kept user k

    pub kept_refused : (later : UserTree)
        → ((user : List ℕ) (k : ℕ) → is_kept later user k ≡ (is_kept more user k && not ((id == k) && is_user user user' && not (is_user user before))))
        → AreKept later rows
    kept_refused later takes = record {
      own = are.own;
      kept = λ user k.
          takes user k
          ∙ ap (λ b. b && not ((id == k) && is_user user user' && not (is_user user before))) (adds user k)
          ∙ refused_by user k (id == k) refl;
    } where
      refused_by : (user : List ℕ) (k : ℕ) (c : Bool) → (id == k) ≡ c
          → ((is_kept seats user k || (c && is_user user user')) && not (c && is_user user user' && not (is_user user before)))
          ≡ is_user user (user_in (find (is_row k) rows))
      refused_by user k true e =
          ap (λ b. (b || is_user user user') && not (is_user user user' && not (is_user user before))) (kept_before user k e)
          ∙ old_here (is_user user before) (is_user user user')
          ∙ sym (kept_before user k e) ∙ are.kept user k
      refused_by user k false e = stays_there (is_kept seats user k) ∙ are.kept user k

-- who is among the elements, and whether one of them passes
module _ {X : Type 0} (p : X → Bool) where
  some_at : (x : X) (xs : List X) (b : Bool) → p x ≡ b → (list_any p xs ≡ true → (y : X) × Has y xs × (p y ≡ true)) → (b || list_any p xs) ≡ true
      → (y : X) × Has y (x ∷ xs) × (p y ≡ true)
  some_at x xs true here later e = (x, inl refl, here)
  some_at x xs false here later e = let found = later e in (found.0, inr found.1, found.2)

  some_one : (xs : List X) → list_any p xs ≡ true → (y : X) × Has y xs × (p y ≡ true)
  some_one [] e = cc
  some_one (x ∷ xs) e = some_at x xs (p x) refl (some_one xs) e

  or_true : (b : Bool) → (b || true) ≡ true
  or_true true = refl
  or_true false = refl

  any_has : (y : X) (xs : List X) → Has y xs → p y ≡ true → list_any p xs ≡ true
  any_has y [] h e = absurd h
  any_has y (x ∷ xs) (inl same) e = let here : p x ≡ true = ap p (sym same) ∙ e in rw here refl
  any_has y (x ∷ xs) (inr h) e = ap (λ b. p x || b) (any_has y xs h e) ∙ or_true (p x)

-- a row is found by its number
module _ where
  not_less : (a b : ℕ) → nat_cmp a b ≡ Less → (a == b) ≡ false
  not_less a b e = grind (arith, nat_tests)

  all_has : (k : ℕ) (row : ListenerRow) (rows : List ListenerRow)
      → AllByRecursion (λ m. nat_cmp k m ≡ Less) (map (λ (x : ListenerRow). x.id) rows) → Has row rows
      → nat_cmp k row.id ≡ Less
  all_has k row [] all h = absurd h
  all_has k row (x ∷ rows) all (inl same) = subst (λ (y : ListenerRow). nat_cmp k y.id ≡ Less) (sym same) all.0
  all_has k row (x ∷ rows) all (inr h) = all_has k row rows all.1 h

  found_itself : (row : ListenerRow) (rows : List ListenerRow) → IsStrictlySortedBy nat_cmp (map (λ (x : ListenerRow). x.id) rows) → Has row rows
      → find (is_row row.id) rows ≡ Some row
  found_itself row [] rising h = absurd h
  found_itself row (x ∷ rows) rising (inl same) =
      subst (λ (y : ListenerRow). find (is_row y.id) (x ∷ rows) ≡ Some y) (sym same) (find_here (is_row x.id) x rows (same_number x.id))
  found_itself row (x ∷ rows) rising (inr h) =
      let less = all_has x.id row rows (sorted_head nat_cmp x.id (map (λ (y : ListenerRow). y.id) rows) rising) h in
      find_later (is_row row.id) x rows (not_less x.id row.id less)
      ∙ found_itself row rows (sorted_tail nat_cmp x.id (map (λ (y : ListenerRow). y.id) rows) rising) h

-- who sits and sent the user has it in the row
sent_user : (user : List ℕ) (pair : Option Credentials) → has_user user pair ≡ true → user_sent pair ≡ Some user
sent_user user None e = cc
sent_user user (Some pair) e = ap Some ((bytes_eq-Decides pair.user user).0 e)

state_user : (number : ℕ) (user : List ℕ) (his : Option (List ℕ)) (state : RowState)
    → IsUserOf his state → user_state number user state ≡ true → his ≡ Some user
state_user number user his (Seated seat) is e = is ∙ sent_user user seat.guest.pair (and_right (seat.mount == number) (has_user user seat.guest.pair) e)
state_user number user his (Ended rule mount) is e = cc

-- what passes is among the numbers of an entry
module _ (p : ℕ → Bool) (id : ℕ) (passes : p id ≡ true) where
  in_numbers : (entry : Option (BTreeSet ℕ)) → has_number entry id ≡ true → list_any p (numbers_in entry) ≡ true
  in_numbers None e = cc
  in_numbers (Some ids) e =
      let found = some_one (is_at (nat_cmp id)) ids.keys e in
      let same : id ≡ found.0 = eqb-true id found.0 (sym (is_same id found.0) ∙ found.2) in
      any_has p found.0 ids.keys found.1 (ap p (sym same) ∙ passes)

-- whoever is asked for is found among the numbers of the user, and nobody else is
module _ (seats : UserTree) (rows : List ListenerRow) (own : Option ℕ) (number : ℕ) (user : List ℕ) (are : AreKept seats rows)
    (rising : IsStrictlySortedBy nat_cmp (map (λ (x : ListenerRow). x.id) rows)) where
  abbrev asks : ℕ → Bool
  asks id = is_other_in own number user (find (is_row id) rows)

  found_row : (found : Option ListenerRow) → is_other_in own number user found ≡ true
      → (row : ListenerRow) × (found ≡ Some row) × (is_other own number user row ≡ true)
  found_row None e = cc
  found_row (Some row) e = (row, refl, e)

  by_number : list_any asks (numbers_in (entry_of seats user)) ≡ true → list_any (is_other own number user) rows ≡ true
  by_number e =
      let id = some_one asks (numbers_in (entry_of seats user)) e in
      let row = found_row (find (is_row id.0) rows) id.2 in
      any_has (is_other own number user) row.0 rows (Has_found (is_row id.0) row.0 rows row.1) row.2

  by_row : list_any (is_other own number user) rows ≡ true → list_any asks (numbers_in (entry_of seats user)) ≡ true
  by_row e =
      let row = some_one (is_other own number user) rows e in
      let found : find (is_row row.0.id) rows ≡ Some row.0 = found_itself row.0 rows rising row.1 in
      let owns : HasItsUser row.0 = found_has (is_row row.0.id) HasItsUser rows row.0 are.own found in
      let his = state_user number user row.0.user row.0.state owns (and_right (not (is_own own row.0.id)) (user_state number user row.0.state) row.2) in
      let kept : is_kept seats user row.0.id ≡ true
      = are.kept user row.0.id ∙ ap (λ found. is_user user (user_in found)) found
      ∙ ap (is_user user) his ∙ (bytes_eq-Decides user user).1 refl in
      in_numbers asks row.0.id (ap (is_other_in own number user) found ∙ row.2) (entry_of seats user) kept

  pub found_by_user : list_any asks (numbers_in (entry_of seats user)) ≡ list_any (is_other own number user) rows
  found_by_user =
      both_ways (list_any asks (numbers_in (entry_of seats user))) (list_any (is_other own number user) rows) by_number by_row
