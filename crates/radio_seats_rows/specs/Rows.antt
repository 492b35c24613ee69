-- The rows of listeners, in which a mount is a number, and what can happen to each.
use Rattle.std.specs.Prelude.{ℕ, Bool, false, ◌==◌, ◌&&◌, if◌then◌else◌, List, Option, Some, None}
use Rattle.radio_policy.specs.declared.rule.Rule.{Rule}
use Rattle.radio_seats_rows.specs.declared.seat.Guest.{Guest}
use Rattle.radio_seats_rows.specs.declared.seat.Seat.{Seat}
use Rattle.radio_seats_rows.specs.declared.row.RowState.{RowState}
use Rattle.radio_seats_rows.specs.declared.row.RowState.TheVariants.{Seated, Ended}
use Rattle.radio_seats_rows.specs.declared.row.ListenerRow.{ListenerRow}
use Rattle.radio_seats_rows.specs.Guests.{guest_in}
use Rattle.radio_seats_rows.specs.Sent.{user_sent}
use Rattle.radio_seats_rows.specs.Seats.{has_user}

abbrev pub is_row : ℕ → ListenerRow → Bool
is_row id row = row.id == id

-- where it sits, or sat last
abbrev pub last_number : RowState → ℕ
last_number (Seated seat) = seat.mount
last_number (Ended rule mount) = mount

-- where it sits
abbrev pub number_of : RowState → Option ℕ
number_of (Seated seat) = Some seat.mount
number_of (Ended rule mount) = None

-- it sits at this mount now, from this place of this session on
abbrev pub shifted : ℕ → ℕ → ℕ → RowState → RowState
shifted mount session place (Seated seat) = Seated (record seat { mount = mount; session = session; place = place })
shifted mount session place (Ended rule last) = Ended rule last

-- it hears this session, if it sits at the mount of this number
abbrev pub hears : ℕ → ℕ → RowState → RowState
hears number session (Seated seat) = Seated (record seat { session = (if seat.mount == number then session else seat.session) })
hears number session (Ended rule mount) = Ended rule mount

-- it has lost its seat by the rule
abbrev pub ended : Rule → RowState → RowState
ended rule (Seated seat) = Ended rule seat.mount
ended rule (Ended other mount) = Ended other mount

-- a seat of which the test holds
abbrev pub holds_in : (Guest → Bool) → RowState → Bool
holds_in p (Seated seat) = p seat.guest
holds_in p (Ended rule mount) = false

-- at the mount of this number
abbrev pub holds_at : (Guest → Bool) → ℕ → RowState → Bool
holds_at p number (Seated seat) = (seat.mount == number) && p seat.guest
holds_at p number (Ended rule mount) = false

-- such a seat ends by the rule
abbrev pub ended_where : (Guest → Bool) → ℕ → Rule → ListenerRow → ListenerRow
ended_where p number rule row = record row { state = (if holds_at p number row.state then Ended rule number else row.state) }

-- the row of a listener who sits down at the mount of this number
abbrev pub seated_row : ℕ → ℕ → Seat → ListenerRow
seated_row id number seat =
    record {
      id = id;
      user = user_sent seat.pair;
      state = Seated (record { place = seat.place; mount = number; session = seat.session; guest = guest_in seat });
    }

abbrev pub with_state : RowState → ListenerRow → ListenerRow
with_state state row = record row { state = state }

-- a seat at the mount of this number, of one who sent this user
abbrev pub user_state : ℕ → List ℕ → RowState → Bool
user_state number user (Seated seat) = (seat.mount == number) && has_user user seat.guest.pair
user_state number user (Ended rule mount) = false

-- the moment of the guest who has the seat, or the other where it is lost
abbrev pub state_moment : (Guest → ℕ) → ℕ → RowState → ℕ
state_moment moment other (Seated seat) = moment seat.guest
state_moment moment other (Ended rule mount) = other
