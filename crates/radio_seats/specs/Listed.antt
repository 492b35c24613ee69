-- Who sits at a mount, and what of it stays as it is wherever it sits.
use Rattle.std.specs.Prelude.{ℕ, ◌==◌, if◌then◌else◌, List, filter_map, Option, Some, None}
use Rattle.std.specs.Str.{bytes_eq}
use Rattle.radio_seats.specs.declared.listed.LentListener.{LentListener}
use Rattle.radio_seats_rows.specs.declared.row.ListenerRow.{ListenerRow}
use Rattle.radio_seats_rows.specs.declared.row.RowState.{RowState}
use Rattle.radio_seats_rows.specs.declared.row.RowState.TheVariants.{Seated, Ended}
use Rattle.radio_seats_rows.specs.declared.seat.Guest.{Guest}
use Rattle.radio_seats_rows.specs.declared.seat.Listener.{Listener}
use Rattle.radio_seats_rows.specs.declared.seat.Seating.{Seating}
use Rattle.radio_seats_rows.specs.declared.seat.Seating.TheVariants.{Sits, Finished}
use Rattle.radio_seats_rows.specs.Guests.{guest_in}

pub record ListedGuest : Type 0 where
  -- the listener's number
  pub id : ℕ
  pub guest : Guest

abbrev pub listed : ℕ → Guest → ListedGuest
listed id guest = record { id = id; guest = guest }

-- the listener that is lent
abbrev pub lent_guest : LentListener → ListedGuest
lent_guest listener = listed listener.id listener.guest.now

-- the listener of this number, if it sits at the mount
abbrev pub guest_sitting : List ℕ → ℕ → Seating → Option ListedGuest
guest_sitting mount id (Sits seat) = if bytes_eq seat.mount mount then Some (listed id (guest_in seat)) else None
guest_sitting mount id (Finished rule last) = None

abbrev pub guest_at : List ℕ → Listener → Option ListedGuest
guest_at mount listener = guest_sitting mount listener.id listener.seating

-- who sits at the mount, in the order of their numbers
-- rule: List of clients
abbrev pub guests_at : List Listener → List ℕ → List ListedGuest
guests_at seats mount = filter_map (guest_at mount) seats

-- the listener of a row, if it sits at the mount of this number
abbrev pub row_sitting : ℕ → ℕ → RowState → Option ListedGuest
row_sitting number id (Seated seat) = if seat.mount == number then Some (listed id seat.guest) else None
row_sitting number id (Ended rule last) = None

abbrev pub row_guest : ℕ → ListenerRow → Option ListedGuest
row_guest number row = row_sitting number row.id row.state
