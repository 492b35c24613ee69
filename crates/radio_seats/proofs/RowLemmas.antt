-- what rows show
use Rattle.std.proofs.Common.{◌≡◌, Bool, true, false, ℕ, ◌+◌, ◌<◌, ◌==◌, Option, Some, None, List, [], ◌∷◌, length, not, refl, ap, sym, subst, ◌∙◌, arith}
use Rattle.radio_seats.proofs.Words.{◌&&◌, find, filter, map, if◌then◌else◌, list_any, IsStrictlySortedBy, option_map, nat_cmp, bytes_eq, eqb-true, bytes_eq-Decides, Rule, update_first, placed, Mount, ListenerRow}
use Rattle.radio_seats.proofs.Words.{NumberedSeat, RowState, Seated, Ended, Guest, Listener, Seating, Sits, Finished, SeatTable, passes_in, passes_at, seat_of_guest, name_in, naming_in, how_many, is_row, last_number}
use Rattle.radio_seats.proofs.Words.{holds_at, ended_where, user_state, seated_row, shifted, ended, with_state, heard_to_place, named, named_state, state_at, sits_by, names_by, AreCounted, is_listener, listener_of}
use Rattle.radio_seats.proofs.Words.{by_listener, with_seat, advanced, with_place, heard_to, moved, with_move, lost_by, loses, with_end, without_listener, moved_to, AreByNumber, is_seat_at, count_at, last_mount}
use Rattle.radio_seats.proofs.Words.{last_mount_of, named_at, holds_of, ended_if, finished_if, with_ended, has_user, is_user_at, sits_there, same_number, passing, one, passing_more, passing_mapped, none_changes}
use Rattle.radio_seats.proofs.Words.{map_found, map_counted, map_both, map_any, map_placed, map_filtered, map_updated}
use Rattle.radio_seats_rows.specs.declared.seat.Seat.{Seat}

-- where no row names a mount whose name has changed, all is shown as before
module _ (name later : ℕ → List ℕ) where
  shown_at : (row : ListenerRow) (rows : List ListenerRow) → ((k : ℕ) → 0 < passing (names_by k) (row ∷ rows) → later k ≡ name k)
      → named later row ≡ named name row
  shown_at row rows same = by_state row.state here where
    here : later (last_number row.state) ≡ name (last_number row.state)
    here =
        let k = last_number row.state in
        let there : one (names_by k row) ≡ 1 = ap one (same_number k) in
        same k (omega (arith, there, passing_more (names_by k) row rows))

    by_state : (state : RowState) → later (last_number state) ≡ name (last_number state)
        → ◌≡◌ {A = Listener} (record { id = row.id; seating = named_state later state }) (record { id = row.id; seating = named_state name state })
    by_state (Seated seat) e = ap (λ mount. record { id = row.id; seating = Sits (seat_of_guest seat.place mount seat.session seat.guest) }) e
    by_state (Ended rule mount) e = ap (λ m. record { id = row.id; seating = Finished rule m }) e

  pub shown_alike : (rows : List ListenerRow) → ((k : ℕ) → 0 < passing (names_by k) rows → later k ≡ name k) → map (named later) rows ≡ map (named name) rows
  shown_alike [] same = refl
  shown_alike (row ∷ rows) same =
      let here : named later row ≡ named name row = shown_at row rows same in
      let rest : map (named later) rows ≡ map (named name) rows
      = shown_alike rows (λ k some. same k (omega (arith, some, passing_more (names_by k) row rows))) in
      cc

-- names and rows of which nothing has changed
pub shown_still : (mounts later : List Mount) (rows : List ListenerRow) → AreCounted mounts rows
    → ((k : ℕ) → 0 < naming_in mounts k → name_in later k ≡ name_in mounts k)
    → map (named (name_in later)) rows ≡ map (named (name_in mounts)) rows
shown_still mounts later rows counted names =
    shown_alike (name_in mounts) (name_in later) rows (λ k some. names k (omega (arith, some, counted.naming k)))

pub shown_same : (name later : ℕ → List ℕ) (rows : List ListenerRow) → ((k : ℕ) → later k ≡ name k) → map (named later) rows ≡ map (named name) rows
shown_same name later rows names = shown_alike name later rows (λ k some. names k)

pub listener_shown : (name : ℕ → List ℕ) (rows : List ListenerRow) (id : ℕ) → listener_of (map (named name) rows) id ≡ option_map (named name) (find (is_row id) rows)
listener_shown name rows id = map_found (named name) (is_row id) (is_listener id) (λ row. refl) rows

-- where it sits, or sat last
last_shown : (name : ℕ → List ℕ) (state : RowState) → last_mount (named_state name state) ≡ name (last_number state)
last_shown name (Seated seat) = refl
last_shown name (Ended rule mount) = refl

pub last_found : (name : ℕ → List ℕ) (rows : List ListenerRow) (id : ℕ)
    → last_mount_of (map (named name) rows) id ≡ option_map (λ (row : ListenerRow). name (last_number row.state)) (find (is_row id) rows)
last_found name rows id = ap (option_map (λ (listener : Listener). last_mount listener.seating)) (listener_shown name rows id) ∙ shown (find (is_row id) rows) where
  shown : (row : Option ListenerRow)
      → option_map (λ (listener : Listener). last_mount listener.seating) (option_map (named name) row) ≡ option_map (λ (r : ListenerRow). name (last_number r.state)) row
  shown None = refl
  shown (Some row) = ap Some (last_shown name row.state)

pub rising_shown : (name : ℕ → List ℕ) (rows : List ListenerRow) → IsStrictlySortedBy nat_cmp (map (λ (row : ListenerRow). row.id) rows)
    → AreByNumber (map (named name) rows)
rising_shown name rows rising = subst (IsStrictlySortedBy nat_cmp) (sym (ids rows)) rising where
  ids : (xs : List ListenerRow) → map (λ (listener : Listener). listener.id) (map (named name) xs) ≡ map (λ (row : ListenerRow). row.id) xs
  ids [] = refl
  ids (x ∷ xs) = ap (λ ns. x.id ∷ ns) (ids xs)

-- the mount of this name has this number
module _ (name : ℕ → List ℕ) (mount : List ℕ) (number : ℕ) (only : (k : ℕ) → bytes_eq (name k) mount ≡ (k == number)) where
  pub is_called : name number ≡ mount
  is_called = (bytes_eq-Decides (name number) mount).0 (only number ∙ same_number number)

  at_mount : (state : RowState) → is_seat_at mount (named_state name state) ≡ state_at number state
  at_mount (Seated seat) = only seat.mount
  at_mount (Ended rule last) = refl

  pub counts_there : (rows : List ListenerRow) → count_at (map (named name) rows) mount ≡ passing (sits_by number) rows
  counts_there rows = map_counted (named name) (sits_by number) (λ (listener : Listener). is_seat_at mount listener.seating) (λ row. at_mount row.state) rows

  names_mount : (state : RowState) → bytes_eq (last_mount (named_state name state)) mount ≡ (last_number state == number)
  names_mount (Seated seat) = only seat.mount
  names_mount (Ended rule last) = only last

  pub names_there : (rows : List ListenerRow) → named_at (map (named name) rows) mount ≡ passing (names_by number) rows
  names_there rows =
      map_counted (named name) (names_by number) (λ (listener : Listener). bytes_eq (last_mount listener.seating) mount) (λ row. names_mount row.state) rows

  pub user_at : (user : List ℕ) (state : RowState) → is_user_at mount user (named_state name state) ≡ user_state number user state
  user_at user (Seated seat) = ap (λ b. b && has_user user seat.guest.pair) (only seat.mount)
  user_at user (Ended rule last) = refl

  pub user_there : (user : List ℕ) (rows : List ListenerRow) → sits_there (map (named name) rows) mount user ≡ list_any (λ (row : ListenerRow). user_state number user row.state) rows
  user_there user rows =
      map_any (named name) (λ (row : ListenerRow). user_state number user row.state) (λ (listener : Listener). is_user_at mount user listener.seating)
      (λ row. user_at user row.state) rows

  module _ (p : Guest → Bool) (rule : Rule) where
    holds_there : (state : RowState) → holds_of (passes_at mount p) (named_state name state) ≡ holds_at p number state
    holds_there (Seated seat) = ap (λ b. b && p seat.guest) (only seat.mount)
    holds_there (Ended other last) = refl

    seat_ends : (seat : NumberedSeat) (b c : Bool) → (seat.mount == number) ≡ b
        → named_state name (if b && c then Ended rule number else Seated seat) ≡ (if b && c then Finished rule (name seat.mount) else named_state name (Seated seat))
    seat_ends seat true true e = ap (λ n. Finished rule (name n)) (sym (eqb-true seat.mount number e))
    seat_ends seat true false e = refl
    seat_ends seat false c e = refl

    state_ends : (state : RowState) → named_state name (if holds_at p number state then Ended rule number else state)
        ≡ ended_if (passes_at mount p) rule (named_state name state)
    state_ends (Seated seat) =
        seat_ends seat (seat.mount == number) (p seat.guest) refl
        ∙ ap (λ b. if b && p seat.guest then Finished rule (name seat.mount) else named_state name (Seated seat)) (sym (only seat.mount))
    state_ends (Ended other last) = refl

    ends_there : (row : ListenerRow) → named name (ended_where p number rule row) ≡ finished_if (passes_at mount p) rule (named name row)
    ends_there row = ap (λ (seating : Seating). record { id = row.id; seating = seating }) (state_ends row.state)

    pub all_end_there : (rows : List ListenerRow)
        → map (named name) (map (ended_where p number rule) rows) ≡ with_ended (map (named name) rows) (passes_at mount p) rule
    all_end_there rows = map_both (named name) (ended_where p number rule) (finished_if (passes_at mount p) rule) ends_there rows

    none_by : (rows : List ListenerRow) → passing (λ (row : ListenerRow). holds_at p number row.state) rows ≡ 0
        → with_ended (map (named name) rows) (passes_at mount p) rule ≡ map (named name) rows
    none_by rows none =
        sym (all_end_there rows)
        ∙ ap (map (named name)) (none_changes (λ (row : ListenerRow). holds_at p number row.state) (ended_where p number rule)
        (λ row e. rw e refl) rows none)

    pub none_end_there : (rows : List ListenerRow) (count : ℕ) → count ≡ passing (λ (row : ListenerRow). holds_at p number row.state) rows → count ≡ 0
        → map (named name) rows ≡ with_ended (map (named name) rows) (passes_at mount p) rule
    none_end_there rows count is none = sym (none_by rows (sym is ∙ none))

    pub how_many_there : (rows : List ListenerRow)
        → how_many (passes_at mount p) (map (named name) rows) ≡ passing (λ (row : ListenerRow). holds_at p number row.state) rows
    how_many_there rows =
        map_counted (named name) (λ (row : ListenerRow). holds_at p number row.state) (λ (listener : Listener). holds_of (passes_at mount p) listener.seating)
        (λ row. holds_there row.state) rows

-- a mount that was not prepared
module _ (name : ℕ → List ℕ) (mount : List ℕ) (only : (k : ℕ) → bytes_eq (name k) mount ≡ false) where
  not_at : (state : RowState) → is_seat_at mount (named_state name state) ≡ false
  not_at (Seated seat) = only seat.mount
  not_at (Ended rule last) = refl

  none_count : (rows : List ListenerRow) → length (filter (λ row. false) rows) ≡ 0
  none_count [] = refl
  none_count (row ∷ rows) = none_count rows

  pub nobody_there : (rows : List ListenerRow) → count_at (map (named name) rows) mount ≡ 0
  nobody_there rows =
      map_counted (named name) (λ row. false) (λ (listener : Listener). is_seat_at mount listener.seating) (λ row. not_at row.state) rows ∙ none_count rows

  not_last : (state : RowState) → bytes_eq (last_mount (named_state name state)) mount ≡ false
  not_last (Seated seat) = only seat.mount
  not_last (Ended rule last) = only last

  pub nobody_names : (rows : List ListenerRow) → named_at (map (named name) rows) mount ≡ 0
  nobody_names rows =
      map_counted (named name) (λ row. false) (λ (listener : Listener). bytes_eq (last_mount listener.seating) mount) (λ row. not_last row.state) rows
      ∙ none_count rows

  pub no_user : (user : List ℕ) (state : RowState) → is_user_at mount user (named_state name state) ≡ false
  no_user user (Seated seat) = ap (λ b. b && has_user user seat.guest.pair) (only seat.mount)
  no_user user (Ended rule last) = refl

  pub no_user_there : (user : List ℕ) (rows : List ListenerRow) → sits_there (map (named name) rows) mount user ≡ false
  no_user_there user [] = refl
  no_user_there user (row ∷ rows) = rw (no_user user row.state) (no_user_there user rows)

  module _ (p : Guest → Bool) (rule : Rule) where
    holds_nowhere : (state : RowState) → holds_of (passes_at mount p) (named_state name state) ≡ false
    holds_nowhere (Seated seat) = ap (λ b. b && p seat.guest) (only seat.mount)
    holds_nowhere (Ended other last) = refl

    pub nobody_ends : (rows : List ListenerRow) → map (named name) rows ≡ with_ended (map (named name) rows) (passes_at mount p) rule
    nobody_ends [] = refl
    nobody_ends (row ∷ rows) = rw (holds_nowhere row.state) (ap (λ seats. named name row ∷ seats) (nobody_ends rows))

    pub none_to_end : (rows : List ListenerRow) → 0 ≡ how_many (passes_at mount p) (map (named name) rows)
    none_to_end [] = refl
    none_to_end (row ∷ rows) = rw (holds_nowhere row.state) (none_to_end rows)

-- where the listeners of one mount after another end
module _ (p : Guest → Bool) (rule : Rule) where
  seat_absorbs : (seat : Seat) (b c : Bool) → passes_in p seat ≡ c
      → ended_if (passes_in p) rule (if b && c then Finished rule seat.mount else Sits seat) ≡ (if c then Finished rule seat.mount else Sits seat)
  seat_absorbs seat true true e = refl
  seat_absorbs seat true false e = rw e refl
  seat_absorbs seat false true e = rw e refl
  seat_absorbs seat false false e = rw e refl

  absorbs : (mount : List ℕ) (seating : Seating) → ended_if (passes_in p) rule (ended_if (passes_at mount p) rule seating) ≡ ended_if (passes_in p) rule seating
  absorbs mount (Sits seat) = seat_absorbs seat (bytes_eq seat.mount mount) (passes_in p seat) refl
  absorbs mount (Finished other last) = refl

  pub end_at_one : (mount : List ℕ) (seats : List Listener)
      → with_ended (with_ended seats (passes_at mount p) rule) (passes_in p) rule ≡ with_ended seats (passes_in p) rule
  end_at_one mount [] = refl
  end_at_one mount (listener ∷ seats) =
      let here = ap (λ (seating : Seating). record listener { seating = seating }) (absorbs mount listener.seating) in
      let rest = end_at_one mount seats in
      cc

  fewer_by : (seat : Seat) (b c : Bool) → passes_in p seat ≡ c → one (holds_of (passes_in p) (if b && c then Finished rule seat.mount else Sits seat)) + one (b && c) ≡ one c
  fewer_by seat true true e = refl
  fewer_by seat true false e = rw e refl
  fewer_by seat false true e = rw e refl
  fewer_by seat false false e = rw e refl

  fewer_at : (mount : List ℕ) (seating : Seating)
      → one (holds_of (passes_in p) (ended_if (passes_at mount p) rule seating)) + one (holds_of (passes_at mount p) seating)
      ≡ one (holds_of (passes_in p) seating)
  fewer_at mount (Sits seat) = fewer_by seat (bytes_eq seat.mount mount) (passes_in p seat) refl
  fewer_at mount (Finished other last) = refl

  pub fewer_left : (mount : List ℕ) (seats : List Listener) → 0 < how_many (passes_at mount p) seats
      → how_many (passes_in p) (with_ended seats (passes_at mount p) rule) < how_many (passes_in p) seats
  fewer_left mount seats some =
      let fewer = passing_mapped (λ (listener : Listener). holds_of (passes_in p) listener.seating) (finished_if (passes_at mount p) rule)
      (λ (listener : Listener). holds_of (passes_at mount p) listener.seating) (λ listener. fewer_at mount listener.seating) seats in
      omega (arith, fewer, some)

  pub all_have_ended : (seats : List Listener) → how_many (passes_in p) seats ≡ 0 → with_ended seats (passes_in p) rule ≡ seats
  all_have_ended seats none =
      none_changes (λ (listener : Listener). holds_of (passes_in p) listener.seating) (finished_if (passes_in p) rule) (λ listener e. rw e refl) seats none

-- the listeners after each change of one row
module _ (name later : ℕ → List ℕ) (rows : List ListenerRow) (same : (k : ℕ) → later k ≡ name k) where
  pub seats_with : (id number : ℕ) (seat : Seat) → name number ≡ seat.mount
      → map (named later) (placed (λ (a b : ListenerRow). nat_cmp a.id b.id) (seated_row id number seat) rows) ≡ with_seat (map (named name) rows) id seat
  seats_with id number seat is =
      shown_same name later (placed (λ (a b : ListenerRow). nat_cmp a.id b.id) (seated_row id number seat) rows) same
      ∙ map_placed (named name) (λ (a b : ListenerRow). nat_cmp a.id b.id) by_listener (seated_row id number seat) (λ row. refl) rows
      ∙ ap (λ mount. placed by_listener (record { id = id; seating = Sits (record seat { mount = mount }) }) (map (named name) rows)) is

  pub seats_without : (id : ℕ) → map (named later) (filter (λ row. not (is_row id row)) rows) ≡ without_listener (map (named name) rows) id
  seats_without id =
      shown_same name later (filter (λ row. not (is_row id row)) rows) same
      ∙ map_filtered (named name) (λ row. not (is_row id row)) (λ listener. not (is_listener id listener)) (λ row. refl) rows

  heard_shown : (place : ℕ) (row : ListenerRow) → named name (with_state (heard_to_place place row.state) row) ≡ advanced place (named name row)
  heard_shown place row = by_state row.state where
    by_state : (state : RowState)
        → named name (with_state (heard_to_place place state) row) ≡ record { id = row.id; seating = heard_to place (named_state name state) }
    by_state (Seated seat) = refl
    by_state (Ended rule mount) = refl

  pub seats_heard : (id place : ℕ) → map (named later) (update_first (is_row id) (λ row. with_state (heard_to_place place row.state) row) rows)
      ≡ with_place (map (named name) rows) id place
  seats_heard id place =
      shown_same name later (update_first (is_row id) (λ row. with_state (heard_to_place place row.state) row) rows) same
      ∙ map_updated (named name) (is_row id) (λ row. with_state (heard_to_place place row.state) row) (is_listener id) (advanced place) (λ row. refl)
      (heard_shown place) rows

  ended_shown : (rule : Rule) (row : ListenerRow) → named name (with_state (ended rule row.state) row) ≡ loses rule (named name row)
  ended_shown rule row = by_state row.state where
    by_state : (state : RowState) → named name (with_state (ended rule state) row) ≡ record { id = row.id; seating = lost_by rule (named_state name state) }
    by_state (Seated seat) = refl
    by_state (Ended other mount) = refl

  pub seats_ended : (id : ℕ) (rule : Rule) → map (named later) (update_first (is_row id) (λ row. with_state (ended rule row.state) row) rows)
      ≡ with_end (map (named name) rows) id rule
  seats_ended id rule =
      shown_same name later (update_first (is_row id) (λ row. with_state (ended rule row.state) row) rows) same
      ∙ map_updated (named name) (is_row id) (λ row. with_state (ended rule row.state) row) (is_listener id) (loses rule) (λ row. refl)
      (ended_shown rule) rows

  module _ (mount : List ℕ) (number session place : ℕ) (is : name number ≡ mount) where
    shifted_shown : (row : ListenerRow) → named name (with_state (shifted number session place row.state) row) ≡ moved mount session place (named name row)
    shifted_shown row = by_state row.state where
      by_state : (state : RowState)
          → named name (with_state (shifted number session place state) row) ≡ record { id = row.id; seating = moved_to mount session place (named_state name state) }
      by_state (Seated seat) =
          ap (λ m. record { id = row.id; seating = Sits (seat_of_guest place m session seat.guest) }) is
      by_state (Ended rule last) = refl

    pub seats_moved : (id : ℕ) → map (named later) (update_first (is_row id) (λ row. with_state (shifted number session place row.state) row) rows)
        ≡ with_move (map (named name) rows) id mount session place
    seats_moved id =
        shown_same name later (update_first (is_row id) (λ row. with_state (shifted number session place row.state) row) rows) same
        ∙ map_updated (named name) (is_row id) (λ row. with_state (shifted number session place row.state) row) (is_listener id) (moved mount session place)
        (λ row. refl) shifted_shown rows

-- two boards are one where their parts are
pub same_table : (names more : List (List ℕ)) (seats others : List Listener) → names ≡ more → seats ≡ others
    → ◌≡◌ {A = SeatTable} (record { prepared = names; seats = seats }) (record { prepared = more; seats = others })
same_table names more seats others e f = ap (λ n. board n seats) e ∙ ap (board more) f where
  board : List (List ℕ) → List Listener → SeatTable
  board n s = record { prepared = n; seats = s }
