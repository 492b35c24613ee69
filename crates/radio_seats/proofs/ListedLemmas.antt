-- who sits at a mount, by the rows of the table
use Rattle.std.proofs.Common.{◌≡◌, Bool, false, ℕ, ◌==◌, Option, Some, None, List, [], ◌∷◌, refl, ap, sym, ◌∙◌}
use Rattle.radio_seats.proofs.Words.{map, filter_map, if◌then◌else◌, bytes_eq, ListenerRow, RowState, Seated, Ended, ListedGuest, listed, guest_at, guests_at, guest_sitting, row_guest, row_sitting, named, named_state}

abbrev with_first : Option ListedGuest → List ListedGuest → List ListedGuest
with_first None guests = guests
with_first (Some guest) guests = guest ∷ guests

split_map : {A : Type 0} (h : A → Option ListedGuest) (x : A) (xs : List A) (first : Option ListedGuest) → h x ≡ first → filter_map h (x ∷ xs) ≡ with_first first (filter_map h xs)
split_map h x xs None e = rw e refl
split_map h x xs (Some guest) e = rw e refl

module _ (name : ℕ → List ℕ) (mount : List ℕ) where
  -- where the mount of this number is the one
  module _ (number : ℕ) (only : (k : ℕ) → bytes_eq (name k) mount ≡ (k == number)) where
    same_guest : (id : ℕ) (state : RowState) → guest_sitting mount id (named_state name state) ≡ row_sitting number id state
    same_guest id (Seated seat) = ap (λ (b : Bool). if b then Some (listed id seat.guest) else None) (only seat.mount)
    same_guest id (Ended rule last) = refl

    pub guests_there : (rows : List ListenerRow) → guests_at (map (named name) rows) mount ≡ filter_map (row_guest number) rows
    guests_there [] = refl
    guests_there (row ∷ rows) =
        split_map (guest_at mount) (named name row) (map (named name) rows) (row_guest number row) (same_guest row.id row.state)
        ∙ ap (with_first (row_guest number row)) (guests_there rows)
        ∙ sym (split_map (row_guest number) row rows (row_guest number row) refl)

  -- where none is
  module _ (only : (k : ℕ) → bytes_eq (name k) mount ≡ false) where
    no_guest : (id : ℕ) (state : RowState) → guest_sitting mount id (named_state name state) ≡ None
    no_guest id (Seated seat) = ap (λ (b : Bool). if b then Some (listed id seat.guest) else None) (only seat.mount)
    no_guest id (Ended rule last) = refl

    pub no_guests : (rows : List ListenerRow) → guests_at (map (named name) rows) mount ≡ []
    no_guests [] = refl
    no_guests (row ∷ rows) =
        split_map (guest_at mount) (named name row) (map (named name) rows) None (no_guest row.id row.state) ∙ no_guests rows
