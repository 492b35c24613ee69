-- The listeners that the rows show, in which a mount is a number, and what is kept of the rows: the counts of each mount and an index.
use Rattle.std.specs.Prelude.{◌≡◌, ℕ, Bool, false, ◌==◌, List, length, Option, Some, None, filter}
use Rattle.radio_seats_rows.specs.declared.seat.Seating.{Seating}
use Rattle.radio_seats_rows.specs.declared.seat.Seating.TheVariants.{Sits, Finished}
use Rattle.radio_seats_rows.specs.declared.seat.Listener.{Listener}
use Rattle.radio_seats_rows.specs.declared.row.RowState.{RowState}
use Rattle.radio_seats_rows.specs.declared.row.RowState.TheVariants.{Seated, Ended}
use Rattle.radio_seats_rows.specs.declared.row.ListenerRow.{ListenerRow}
use Rattle.radio_seats_rows.specs.declared.mounts.Mount.{Mount}
use Rattle.radio_seats_rows.specs.Guests.{seat_of_guest}
use Rattle.radio_seats_rows.specs.Rows.{last_number, number_of}
use Rattle.radio_seats_rows.specs.Mounts.{sitting_in, naming_in}
use Rattle.radio_seats.specs.Users.{UserTree, AreKept}

-- what a row shows, where mounts of these numbers have these names
abbrev pub named_state : (ℕ → List ℕ) → RowState → Seating
named_state name (Seated seat) = Sits (seat_of_guest seat.place (name seat.mount) seat.session seat.guest)
named_state name (Ended rule mount) = Finished rule (name mount)

abbrev pub named : (ℕ → List ℕ) → ListenerRow → Listener
named name row = record { id = row.id; seating = named_state name row.state }

-- a row of one who sits at the mount of this number
abbrev pub state_at : ℕ → RowState → Bool
state_at number (Seated seat) = seat.mount == number
state_at number (Ended rule mount) = false

abbrev pub sits_by : ℕ → ListenerRow → Bool
sits_by number row = state_at number row.state

-- a row of one who sits at the mount of this number, or sat there last
abbrev pub names_by : ℕ → ListenerRow → Bool
names_by number row = last_number row.state == number

abbrev pub last_in : Option ListenerRow → Option ℕ
last_in None = None
last_in (Some row) = Some (last_number row.state)

abbrev pub number_in : Option ListenerRow → Option ℕ
number_in None = None
number_in (Some row) = number_of row.state

-- each mount's counts are those of the rows of those who sit there, and of those who sit there or sat there last
pub record AreCounted (mounts : List Mount) (rows : List ListenerRow) : Type 0 where
  pub sitting : (number : ℕ) → sitting_in mounts number ≡ length (filter (sits_by number) rows)
  pub naming : (number : ℕ) → naming_in mounts number ≡ length (filter (names_by number) rows)

-- the counts of the mounts and the index of users are those of the rows
pub record FitRows (mounts : List Mount) (users : UserTree) (rows : List ListenerRow) : Type 0 where
  pub counted : AreCounted mounts rows
  pub kept : AreKept users rows
