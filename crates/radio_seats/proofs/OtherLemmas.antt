-- the listeners but for one of them, and the one who comes next
use Rattle.std.proofs.Common.{◌≡◌, Bool, true, false, ℕ, ◌+◌, ◌-◌, ◌==◌, Option, Some, None, List, [], ◌∷◌, not, refl, ap, ◌∙◌, arith}
use Rattle.radio_seats.proofs.Words.{◌&&◌, find, map, list_any, option_map, option_map_or, nat_cmp, bytes_eq, ListenerRow, Listener, Seating, Sits, Finished, is_row, user_state, named, is_listener, listener_of}
use Rattle.radio_seats.proofs.Words.{seat_held, seat_in, without_listener, is_seat_at, count_at, is_user_at, sits_there, sits_at, next_number, AreByNumber, one, held, passing_removed, map_any, map_found, any_filtered}
use Rattle.radio_tables.specs.Past.{is_past}
use Rattle.radio_seats.proofs.RowLemmas.{user_at, no_user}

-- one sits at the mount exactly where it counts there
held_seat : (mount : List ℕ) (seating : Seating) → one (is_seat_at mount seating) ≡ one (option_map_or (λ seat. bytes_eq seat.mount mount) (seat_held seating) false)
held_seat mount (Sits seat) = refl
held_seat mount (Finished rule last) = refl

held_listener : (mount : List ℕ) (listener : Option Listener)
    → held (λ (x : Listener). is_seat_at mount x.seating) listener ≡ one (option_map_or (λ seat. bytes_eq seat.mount mount) (seat_in listener) false)
held_listener mount None = refl
held_listener mount (Some listener) = held_seat mount listener.seating

count_by : (seats : List Listener) (id : ℕ) (mount : List ℕ) → AreByNumber seats
    → count_at (without_listener seats id) mount + one (sits_at seats id mount) ≡ count_at seats mount
count_by seats id mount rising =
    let held_is = held_listener mount (listener_of seats id) in
    let removed = passing_removed (λ (x : Listener). is_seat_at mount x.seating) (λ (x : Listener). x.id) id seats rising in
    omega (arith, removed, held_is)

pub count_others : (seats : List Listener) (id : ℕ) (mount : List ℕ) → AreByNumber seats → sits_at seats id mount ≡ true
    → count_at (without_listener seats id) mount ≡ count_at seats mount - 1
count_others seats id mount rising sits = let all = count_by seats id mount rising in let his = ap one sits in omega (arith, all, his)

pub count_all : (seats : List Listener) (id : ℕ) (mount : List ℕ) → AreByNumber seats → sits_at seats id mount ≡ false
    → count_at (without_listener seats id) mount ≡ count_at seats mount
count_all seats id mount rising sits = let all = count_by seats id mount rising in let his = ap one sits in omega (arith, all, his)

-- the same user beside it, among rows
module _ (name : ℕ → List ℕ) (mount user : List ℕ) (id : ℕ) where
  pub other_user_there : (number : ℕ) → ((k : ℕ) → bytes_eq (name k) mount ≡ (k == number)) → (rows : List ListenerRow)
      → sits_there (without_listener (map (named name) rows) id) mount user
      ≡ list_any (λ (row : ListenerRow). not (is_row id row) && user_state number user row.state) rows
  other_user_there number only rows =
      any_filtered (λ (x : Listener). is_user_at mount user x.seating) (λ x. not (is_listener id x)) (map (named name) rows)
      ∙ map_any (named name) (λ (row : ListenerRow). not (is_row id row) && user_state number user row.state)
      (λ (x : Listener). not (is_listener id x) && is_user_at mount user x.seating)
      (λ row. ap (λ b. not (is_row id row) && b) (user_at name mount number only user row.state)) rows

  pub no_other_user_there : ((k : ℕ) → bytes_eq (name k) mount ≡ false) → (rows : List ListenerRow)
      → sits_there (without_listener (map (named name) rows) id) mount user ≡ false
  no_other_user_there only rows = any_filtered (λ (x : Listener). is_user_at mount user x.seating) (λ x. not (is_listener id x)) (map (named name) rows) ∙ none_in rows where
    and_false : (b c : Bool) → c ≡ false → (b && c) ≡ false
    and_false true c e = e
    and_false false c e = refl

    none_in : (xs : List ListenerRow) → list_any (λ (x : Listener). not (is_listener id x) && is_user_at mount user x.seating) (map (named name) xs) ≡ false
    none_in [] = refl
    none_in (x ∷ xs) = rw (and_false (not (is_row id x)) (is_user_at mount user (named name x).seating) (no_user name mount only user x.state)) (none_in xs)

-- the next one, as rows tell it
pub next_shown : (name : ℕ → List ℕ) (last : Option ℕ) (rows : List ListenerRow)
    → next_number (map (named name) rows) last ≡ option_map (λ (row : ListenerRow). row.id) (find (λ (row : ListenerRow). is_past nat_cmp last row.id) rows)
next_shown name last rows =
    ap (option_map (λ (listener : Listener). listener.id))
    (map_found (named name) (λ (row : ListenerRow). is_past nat_cmp last row.id) (λ (x : Listener). is_past nat_cmp last x.id) (λ row. refl) rows)
    ∙ his_id (find (λ (row : ListenerRow). is_past nat_cmp last row.id) rows) where
      his_id : (row : Option ListenerRow) → option_map (λ (listener : Listener). listener.id) (option_map (named name) row) ≡ option_map (λ (r : ListenerRow). r.id) row
      his_id None = refl
      his_id (Some row) = refl
