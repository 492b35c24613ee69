-- Which rows there are of whom: the index of the rows by the users that were sent.
use Rattle.std.specs.Prelude.{◌≡◌, ℕ, Bool, false, ◌==◌, ◌&&◌, not, List, [], Option, Some, None, find}
use Rattle.std.specs.BTreeMap.{BTreeMap, get_by}
use Rattle.std.specs.BTreeSet.{BTreeSet, contains}
use Rattle.std.specs.Cmp.Lexicographic.{slice_cmp}
use Rattle.std.specs.Global.{Vec}
use Rattle.std.specs.Ordering.{nat_cmp}
use Rattle.std.specs.declared.cmp.Ordering.{Ordering}
use Rattle.radio_tables.specs.Lists.{Each}
use Rattle.radio_seats_rows.specs.declared.row.RowState.{RowState}
use Rattle.radio_seats_rows.specs.declared.row.RowState.TheVariants.{Seated, Ended}
use Rattle.radio_seats_rows.specs.declared.row.ListenerRow.{ListenerRow}
use Rattle.radio_seats_rows.specs.Rows.{is_row, user_state}
use Rattle.radio_seats_rows.specs.Sent.{user_sent, is_user}

-- for each user the numbers of the listeners who sent it
abbrev pub UserTree : Type 0
UserTree = BTreeMap (Vec ℕ) (BTreeSet ℕ)

-- the place of a user among those of the tree, which are in the order of their bytes
abbrev pub by_bytes : List ℕ → Vec ℕ → Ordering
by_bytes user key = slice_cmp nat_cmp user key.items

-- the numbers that are kept under this user, if there is an entry
abbrev pub entry_of : UserTree → List ℕ → Option (BTreeSet ℕ)
entry_of seats user = get_by (by_bytes user) seats

abbrev pub has_number : Option (BTreeSet ℕ) → ℕ → Bool
has_number None id = false
has_number (Some ids) id = contains nat_cmp ids id

abbrev pub numbers_in : Option (BTreeSet ℕ) → List ℕ
numbers_in None = []
numbers_in (Some ids) = ids.keys

-- the listener of this number is kept under this user
abbrev pub is_kept : UserTree → List ℕ → ℕ → Bool
is_kept seats user id = has_number (entry_of seats user) id

-- the user of the row that was found
abbrev pub user_in : Option ListenerRow → Option (List ℕ)
user_in None = None
user_in (Some row) = row.user

abbrev pub IsUserOf : Option (List ℕ) → RowState → Type 0
IsUserOf user (Seated seat) = user ≡ user_sent seat.guest.pair
IsUserOf user (Ended rule mount) = Unit {0}

-- the row of whoever sits there has the user that was sent
abbrev pub HasItsUser : ListenerRow → Type 0
HasItsUser row = IsUserOf row.user row.state

-- the index keeps under each user the numbers of the rows that have it, and no other
pub record AreKept (seats : UserTree) (rows : List ListenerRow) : Type 0 where
  pub own : Each HasItsUser rows
  pub kept : (user : List ℕ) (id : ℕ) → is_kept seats user id ≡ is_user user (user_in (find (is_row id) rows))

-- it is the one who is left out
abbrev pub is_own : Option ℕ → ℕ → Bool
is_own None id = false
is_own (Some own) id = id == own

-- the row of one who sits at the mount of this number and sent this user, and is not left out
abbrev pub is_other : Option ℕ → ℕ → List ℕ → ListenerRow → Bool
is_other own number user row = not (is_own own row.id) && user_state number user row.state

abbrev pub is_other_in : Option ℕ → ℕ → List ℕ → Option ListenerRow → Bool
is_other_in own number user None = false
is_other_in own number user (Some row) = is_other own number user row
