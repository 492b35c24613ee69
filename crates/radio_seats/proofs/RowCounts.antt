-- how the counts of mounts follow the rows: of those who sit there, and of those who sit there or sat there last
use Rattle.std.proofs.Common.{◌≡◌, Bool, true, false, ℕ, ◌+◌, ◌-◌, ◌<◌, ◌≤◌, ◌==◌, Option, Some, None, List, [], ◌∷◌, length, not, refl, ap, sym, subst, ◌∙◌, arith}
use Rattle.radio_seats.proofs.Words.{◌&&◌, find, filter, map, if◌then◌else◌, IsStrictlySortedBy, option_map, nat_cmp, bytes_eq, eqb-true, Rule, update_first, placed, Mount, ListenerRow, NumberedSeat, RowState, Seated}
use Rattle.radio_seats.proofs.Words.{Ended, Guest, Listener, name_in, sitting_in, naming_in, one_at, is_row, last_number, number_of, holds_at, ended_where, shifted, with_state, named, named_state, state_at, sits_by}
use Rattle.radio_seats.proofs.Words.{names_by, last_in, number_in, AreCounted, last_mount, named_at, same_number, passing, one, held, passing_more, passing_updated, passing_fits, found_counts, passing_mapped}
use Rattle.radio_seats.proofs.Words.{passing_same, passing_placed, passing_removed}

at_number : (b : Bool) → one b ≡ (if b then 1 else 0)
at_number true = refl
at_number false = refl

-- the mount at which a row counts among those who sit
pub held_number : (row : Option ListenerRow) (k : ℕ) → held (sits_by k) row ≡ one_at (number_in row) k
held_number None k = refl
held_number (Some row) k = by_state row.state where
  by_state : (state : RowState) → one (state_at k state) ≡ one_at (number_of state) k
  by_state (Seated seat) = at_number (seat.mount == k)
  by_state (Ended rule mount) = refl

-- and the one that it names
pub held_last : (row : Option ListenerRow) (k : ℕ) → held (names_by k) row ≡ one_at (last_in row) k
held_last None k = refl
held_last (Some row) k = at_number (last_number row.state == k)

-- whoever sits somewhere names it
sits_last : (row : Option ListenerRow) (number : ℕ) → number_in row ≡ Some number → last_in row ≡ Some number
sits_last None number e = cc
sits_last (Some row) number e = by_state row.state e where
  by_state : (state : RowState) → number_of state ≡ Some number → Some (last_number state) ≡ Some number
  by_state (Seated seat) h = h
  by_state (Ended rule mount) h = cc

no_more_sit : (k : ℕ) (rows : List ListenerRow) → passing (sits_by k) rows ≤ passing (names_by k) rows
no_more_sit k [] = omega arith
no_more_sit k (row ∷ rows) =
    let here = by_state row.state in
    let rest = no_more_sit k rows in
    omega (arith, here, rest, passing_more (sits_by k) row rows, passing_more (names_by k) row rows) where
      by_state : (state : RowState) → one (state_at k state) ≤ one (last_number state == k)
      by_state (Seated seat) = omega arith
      by_state (Ended rule mount) = omega arith

-- one of the two counts
module _ (counts : ℕ → ListenerRow → Bool) (number_by : Option ListenerRow → Option ℕ)
    (held_by : (row : Option ListenerRow) (k : ℕ) → held (counts k) row ≡ one_at (number_by row) k) (rows : List ListenerRow) where
  -- who is found is counted at its mount
  pub counted_there : (id k : ℕ) → one_at (number_by (find (is_row id) rows)) k ≤ passing (counts k) rows
  counted_there id k = by_found (find (is_row id) rows) refl where
    by_count : (row : ListenerRow) → find (is_row id) rows ≡ Some row → (b : Bool) → counts k row ≡ b → held (counts k) (Some row) ≤ passing (counts k) rows
    by_count row e true passes =
        let some : 0 < passing (counts k) rows = found_counts (counts k) (is_row id) rows row e passes in
        let here : one (counts k row) ≡ 1 = ap one passes in
        omega (arith, some, here)
    by_count row e false fails = let here : one (counts k row) ≡ 0 = ap one fails in omega (arith, here)

    by_found : (row : Option ListenerRow) → find (is_row id) rows ≡ row → one_at (number_by row) k ≤ passing (counts k) rows
    by_found None e = let none = held_by None k in omega (arith, none)
    by_found (Some row) e = let count = by_count row e (counts k row) refl in let number = held_by (Some row) k in omega (arith, count, number)

  pub his_counts : (id : ℕ) (from : Option ℕ) → from ≡ number_by (find (is_row id) rows) → (k : ℕ) → one_at from k ≤ passing (counts k) rows
  his_counts id from his k = let some = counted_there id k in let number = ap (λ n. one_at n k) his in omega (arith, some, number)

  -- its row is changed in its place
  pub follows_him : (id : ℕ) (f : ListenerRow → ListenerRow) (k : ℕ)
      → passing (counts k) (update_first (is_row id) f rows) + one_at (number_by (find (is_row id) rows)) k
      ≡ passing (counts k) rows + one_at (number_by (option_map f (find (is_row id) rows))) k
  follows_him id f k =
      let law = passing_updated (counts k) (is_row id) f rows in
      let before = held_by (find (is_row id) rows) k in
      let after = held_by (option_map f (find (is_row id) rows)) k in
      omega (arith, law, before, after)

  pub stays_there : (id : ℕ) (f : ListenerRow → ListenerRow) → number_by (option_map f (find (is_row id) rows)) ≡ number_by (find (is_row id) rows) → (k : ℕ)
      → passing (counts k) (update_first (is_row id) f rows) ≡ passing (counts k) rows
  stays_there id f same k =
      let law = follows_him id f k in
      let number = ap (λ n. one_at n k) same in
      omega (arith, law, number)

  pub goes_from : (id : ℕ) (f : ListenerRow → ListenerRow) (from : Option ℕ) → from ≡ number_by (find (is_row id) rows)
      → number_by (option_map f (find (is_row id) rows)) ≡ None → (k : ℕ)
      → passing (counts k) (update_first (is_row id) f rows) + one_at from k ≡ passing (counts k) rows
  goes_from id f from his none k =
      let law = follows_him id f k in
      let before = ap (λ n. one_at n k) his in
      let after = ap (λ n. one_at n k) none in
      omega (arith, law, before, after)

  pub goes_to : (id : ℕ) (f : ListenerRow → ListenerRow) (from : Option ℕ) (number : ℕ) → from ≡ number_by (find (is_row id) rows)
      → number_by (option_map f (find (is_row id) rows)) ≡ Some number → (k : ℕ)
      → passing (counts k) (update_first (is_row id) f rows) + one_at from k ≡ passing (counts k) rows + one_at (Some number) k
  goes_to id f from number his there k =
      let law = follows_him id f k in
      let before = ap (λ n. one_at n k) his in
      let after = ap (λ n. one_at n k) there in
      omega (arith, law, before, after)

  -- it comes, or goes
  module _ (rising : IsStrictlySortedBy nat_cmp (map (λ (row : ListenerRow). row.id) rows)) (from : Option ℕ) where
    pub one_comes : (row : ListenerRow) (number : ℕ) → from ≡ number_by (find (is_row row.id) rows) → number_by (Some row) ≡ Some number → (k : ℕ)
        → passing (counts k) (placed (λ (a b : ListenerRow). nat_cmp a.id b.id) row rows) + one_at from k
        ≡ passing (counts k) rows + one_at (Some number) k
    one_comes row number his there k =
        let law = passing_placed (counts k) (λ (r : ListenerRow). r.id) row rows rising in
        let before = held_by (find (is_row row.id) rows) k in
        let mine = ap (λ n. one_at n k) his in
        let new = held_by (Some row) k in
        let at = ap (λ n. one_at n k) there in
        omega (arith, law, before, mine, new, at)

    pub one_goes : (id : ℕ) → from ≡ number_by (find (is_row id) rows) → (k : ℕ)
        → passing (counts k) (filter (λ row. not (is_row id row)) rows) + one_at from k ≡ passing (counts k) rows
    one_goes id his k =
        let law = passing_removed (counts k) (λ (row : ListenerRow). row.id) id rows rising in
        let before = held_by (find (is_row id) rows) k in
        let mine = ap (λ n. one_at n k) his in
        omega (arith, law, before, mine)

-- a count of each mount, before and after
module _ (counts : ℕ → ListenerRow → Bool) (old : ℕ → ℕ) (rows after : List ListenerRow) (from : Option ℕ)
    (counted : (k : ℕ) → old k ≡ passing (counts k) rows) where
  pub one_less : (later : ℕ → ℕ) → ((k : ℕ) → passing (counts k) after + one_at from k ≡ passing (counts k) rows)
      → ((k : ℕ) → later k ≡ old k - one_at from k) → (k : ℕ) → later k ≡ passing (counts k) after
  one_less later law follows k = omega (arith, counted k, law k, follows k)

  module _ (left : ℕ → ℕ) (number : ℕ) (some : (k : ℕ) → one_at from k ≤ passing (counts k) rows)
      (law : (k : ℕ) → passing (counts k) after + one_at from k ≡ passing (counts k) rows + one_at (Some number) k)
      (leaves : (k : ℕ) → left k ≡ old k - one_at from k) where
    pub one_more : (later : ℕ → ℕ) → ((k : ℕ) → later k ≡ left k + one_at (Some number) k) → (k : ℕ) → later k ≡ passing (counts k) after
    one_more later comes k = omega (arith, counted k, some k, law k, leaves k, comes k)

    pub room_for_one : (many : ℕ) → length after < many → left number + 1 < many
    room_for_one many few =
        let here : one_at (Some number) number ≡ 1 = rw (same_number number) refl in
        let fits = passing_fits (counts number) after in
        omega (arith, counted number, some number, law number, leaves number, here, fits, few)

-- some lose their seats at the mount of this number
module _ (p : Guest → Bool) (rule : Rule) (number : ℕ) where
  seat_ends : (seat : NumberedSeat) (b c : Bool) → (seat.mount == number) ≡ b
      → one (state_at number (if b && c then Ended rule number else Seated seat)) + one (b && c) ≡ one b
  seat_ends seat true true e = refl
  seat_ends seat true false e = rw e refl
  seat_ends seat false c e = rw e refl

  ends_here : (state : RowState)
      → one (state_at number (if holds_at p number state then Ended rule number else state)) + one (holds_at p number state) ≡ one (state_at number state)
  ends_here (Seated seat) = seat_ends seat (seat.mount == number) (p seat.guest) refl
  ends_here (Ended other mount) = refl

  seat_stays : (k : ℕ) (seat : NumberedSeat) (b c : Bool) → (seat.mount == number) ≡ b → (number == k) ≡ false
      → state_at k (if b && c then Ended rule number else Seated seat) ≡ (seat.mount == k)
  seat_stays k seat true true e apart = sym (ap (λ n. n == k) (eqb-true seat.mount number e) ∙ apart)
  seat_stays k seat true false e apart = refl
  seat_stays k seat false c e apart = refl

  stays_elsewhere : (k : ℕ) → (number == k) ≡ false → (state : RowState)
      → state_at k (if holds_at p number state then Ended rule number else state) ≡ state_at k state
  stays_elsewhere k apart (Seated seat) = seat_stays k seat (seat.mount == number) (p seat.guest) refl apart
  stays_elsewhere k apart (Ended other mount) = refl

  -- each names its mount as before
  seat_names : (k : ℕ) (seat : NumberedSeat) (b c : Bool) → (seat.mount == number) ≡ b
      → (last_number (if b && c then Ended rule number else Seated seat) == k) ≡ (seat.mount == k)
  seat_names k seat true true e = ap (λ n. n == k) (sym (eqb-true seat.mount number e))
  seat_names k seat true false e = refl
  seat_names k seat false c e = refl

  names_still : (k : ℕ) (state : RowState)
      → (last_number (if holds_at p number state then Ended rule number else state) == k) ≡ (last_number state == k)
  names_still k (Seated seat) = seat_names k seat (seat.mount == number) (p seat.guest) refl
  names_still k (Ended other mount) = refl

  counts_ended : (rows : List ListenerRow) (k : ℕ) (b : Bool) → (number == k) ≡ b
      → passing (sits_by k) (map (ended_where p number rule) rows) + (if b then passing (λ (row : ListenerRow). holds_at p number row.state) rows else 0)
      ≡ passing (sits_by k) rows
  counts_ended rows k true e =
      subst (λ n. passing (sits_by n) (map (ended_where p number rule) rows) + passing (λ (row : ListenerRow). holds_at p number row.state) rows
      ≡ passing (sits_by n) rows) (eqb-true number k e)
      (passing_mapped (sits_by number) (ended_where p number rule) (λ (row : ListenerRow). holds_at p number row.state) (λ row. ends_here row.state) rows)
  counts_ended rows k false e =
      let same = passing_same (sits_by k) (ended_where p number rule) (λ row. stays_elsewhere k e row.state) rows in omega (arith, same)

  pub counted_ended : (mounts later : List Mount) (rows : List ListenerRow) (count : ℕ) → AreCounted mounts rows
      → count ≡ passing (λ (row : ListenerRow). holds_at p number row.state) rows
      → ((k : ℕ) → sitting_in later k ≡ sitting_in mounts k - (if number == k then count else 0))
      → ((k : ℕ) → naming_in later k ≡ naming_in mounts k)
      → AreCounted later (map (ended_where p number rule) rows)
  counted_ended mounts later rows count counted is follows named_still = record {
    sitting = λ k.
        let law = counts_ended rows k (number == k) refl in
        let left = ap (λ n. sitting_in mounts k - (if number == k then n else 0)) is in
        omega (arith, counted.sitting k, law, left, follows k);
    naming = λ k.
        let same = passing_same (names_by k) (ended_where p number rule) (λ row. names_still k row.state) rows in
        omega (arith, counted.naming k, same, named_still k);
  }

-- a row that is moved to the mount of this number
module _ (number session place : ℕ) where
  abbrev pub move : ListenerRow → ListenerRow
  move row = with_state (shifted number session place row.state) row

  -- of one who sits nowhere nothing changes
  pub none_moves : (row : Option ListenerRow) → number_in row ≡ None → (number_in (option_map move row) ≡ number_in row) × (last_in (option_map move row) ≡ last_in row)
  none_moves None e = (refl, refl)
  none_moves (Some row) e = by_state row.state e where
    by_state : (state : RowState) → number_of state ≡ None
        → (number_of (shifted number session place state) ≡ number_of state)
        × (Some (last_number (shifted number session place state)) ≡ Some (last_number state))
    by_state (Seated seat) h = cc
    by_state (Ended rule mount) h = (refl, refl)

  some_moves : (row : Option ListenerRow) (from : ℕ) → number_in row ≡ Some from
      → (number_in (option_map move row) ≡ Some number) × (last_in (option_map move row) ≡ Some number)
  some_moves None from e = cc
  some_moves (Some row) from e = by_state row.state e where
    by_state : (state : RowState) → number_of state ≡ Some from
        → (number_of (shifted number session place state) ≡ Some number) × (Some (last_number (shifted number session place state)) ≡ Some number)
    by_state (Seated seat) h = (refl, refl)
    by_state (Ended rule mount) h = cc

  -- one who sits goes there, and its row names it from then on
  module _ (rows : List ListenerRow) (id : ℕ) (from : Option ℕ) (old : ℕ) (his : from ≡ number_in (find (is_row id) rows)) (sits : from ≡ Some old) where
    last : from ≡ last_in (find (is_row id) rows)
    last = sits ∙ sym (sits_last (find (is_row id) rows) old (sym his ∙ sits))

    there : (number_in (option_map move (find (is_row id) rows)) ≡ Some number) × (last_in (option_map move (find (is_row id) rows)) ≡ Some number)
    there = some_moves (find (is_row id) rows) old (sym his ∙ sits)

    pub his_name : (k : ℕ) → one_at from k ≤ passing (names_by k) rows
    his_name = his_counts names_by last_in held_last rows id from last

    pub seat_goes : (k : ℕ) → passing (sits_by k) (update_first (is_row id) move rows) + one_at from k ≡ passing (sits_by k) rows + one_at (Some number) k
    seat_goes = goes_to sits_by number_in held_number rows id move from number his there.0

    pub name_goes : (k : ℕ) → passing (names_by k) (update_first (is_row id) move rows) + one_at from k ≡ passing (names_by k) rows + one_at (Some number) k
    name_goes = goes_to names_by last_in held_last rows id move from number last there.1

-- no row names a mount at which none is counted
module _ (mounts : List Mount) (rows : List ListenerRow) (mount : List ℕ) (counted : AreCounted mounts rows)
    (none : named_at (map (named (name_in mounts)) rows) mount ≡ 0) (k : ℕ) (is : bytes_eq (name_in mounts k) mount ≡ true) where
  one_more_shown : (b c : Bool) (row : ListenerRow) (listener : Listener) (xs : List ListenerRow) (ys : List Listener) → (b ≡ true → c ≡ true)
      → length xs ≤ length ys → length (if b then row ∷ xs else xs) ≤ length (if c then listener ∷ ys else ys)
  one_more_shown true true row listener xs ys follows h = omega arith
  one_more_shown true false row listener xs ys follows h = let no_way : false ≡ true = follows refl in cc
  one_more_shown false true row listener xs ys follows h = omega arith
  one_more_shown false false row listener xs ys follows h = h

  names_it : (state : RowState) → (last_number state == k) ≡ true → bytes_eq (last_mount (named_state (name_in mounts) state)) mount ≡ true
  names_it (Seated seat) e = ap (λ n. bytes_eq (name_in mounts n) mount) (eqb-true seat.mount k e) ∙ is
  names_it (Ended rule last) e = ap (λ n. bytes_eq (name_in mounts n) mount) (eqb-true last k e) ∙ is

  bounded : (xs : List ListenerRow) → passing (names_by k) xs ≤ named_at (map (named (name_in mounts)) xs) mount
  bounded [] = omega arith
  bounded (row ∷ xs) =
      one_more_shown (names_by k row) (bytes_eq (last_mount (named_state (name_in mounts) row.state)) mount) row (named (name_in mounts) row)
      (filter (names_by k) xs) (filter (λ (listener : Listener). bytes_eq (last_mount listener.seating) mount) (map (named (name_in mounts)) xs))
      (names_it row.state) (bounded xs)

  pub none_names : naming_in mounts k ≡ 0
  none_names = let most = bounded rows in omega (arith, counted.naming k, none, most)

  pub none_sits : sitting_in mounts k ≡ 0
  none_sits =
      let most = bounded rows in
      let fewer = no_more_sit k rows in
      omega (arith, counted.sitting k, none, most, fewer)
