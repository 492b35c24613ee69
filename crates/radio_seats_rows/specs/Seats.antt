-- The listeners, each with its seat, or with the rule by which it has lost it and the mount where that was.
use Rattle.std.specs.Prelude.{◌≡◌, ℕ, Bool, true, false, ◌==◌, ◌&&◌, not, if◌then◌else◌, List, length, Option, Some, None, find, filter, map}
use Rattle.std.specs.Option.{option_map, option_map_or}
use Rattle.std.specs.declared.cmp.Ordering.{Ordering}
use Rattle.std.specs.List.{list_any}
use Rattle.std.specs.List.Sorted.{IsStrictlySortedBy}
use Rattle.std.specs.Ordering.{nat_cmp}
use Rattle.std.specs.Str.{bytes_eq}
use Rattle.radio_creds.specs.Credentials.{Credentials}
use Rattle.radio_policy.specs.declared.rule.Rule.{Rule}
use Rattle.radio_seats_rows.specs.declared.seat.Seat.{Seat}
use Rattle.radio_seats_rows.specs.declared.seat.Seating.{Seating}
use Rattle.radio_seats_rows.specs.declared.seat.Seating.TheVariants.{Sits, Finished}
use Rattle.radio_seats_rows.specs.declared.seat.Listener.{Listener}
use Rattle.radio_tables.specs.Lists.{update_first, placed}
use Rattle.radio_tables.specs.Past.{is_past}

abbrev pub is_listener : ℕ → Listener → Bool
is_listener id listener = listener.id == id

-- the listener of this number, if it is one
abbrev pub listener_of : List Listener → ℕ → Option Listener
listener_of seats id = find (is_listener id) seats

-- the seat of one who sits; one who has finished has none
abbrev pub seat_held : Seating → Option Seat
seat_held (Sits seat) = Some seat
seat_held (Finished rule mount) = None

abbrev pub seat_in : Option Listener → Option Seat
seat_in None = None
seat_in (Some listener) = seat_held listener.seating

-- the seat of the listener of this number, if it has one
abbrev pub seat_of : List Listener → ℕ → Option Seat
seat_of seats id = seat_in (listener_of seats id)

-- listeners are in the order of their numbers
abbrev pub by_listener : Listener → Listener → Ordering
by_listener a b = nat_cmp a.id b.id

-- the listeners are in rising order of their numbers, so that no number comes twice
abbrev pub AreByNumber : List Listener → Type 0
AreByNumber seats = IsStrictlySortedBy nat_cmp (map (λ listener. listener.id) seats)

-- a listener who sits down
abbrev pub seated : ℕ → Seat → Listener
seated id seat = record { id = id; seating = Sits seat }

-- one listener more, who has this seat
abbrev pub with_seat : List Listener → ℕ → Seat → List Listener
with_seat seats id seat = placed by_listener (seated id seat) seats

-- a seat from which the stream was heard up to this place
abbrev pub heard_to : ℕ → Seating → Seating
heard_to place (Sits seat) = Sits (record seat { place = place })
heard_to place (Finished rule mount) = Finished rule mount

abbrev pub advanced : ℕ → Listener → Listener
advanced place listener = record listener { seating = heard_to place listener.seating }

-- the listener has heard its stream up to this place
abbrev pub with_place : List Listener → ℕ → ℕ → List Listener
with_place seats id place = update_first (is_listener id) (advanced place) seats

-- a seat at this mount, in this session and from this place on
abbrev pub moved_to : List ℕ → ℕ → ℕ → Seating → Seating
moved_to mount session place (Sits seat) = Sits (record seat { mount = mount; session = session; place = place })
moved_to mount session place (Finished rule last) = Finished rule last

abbrev pub moved : List ℕ → ℕ → ℕ → Listener → Listener
moved mount session place listener = record listener { seating = moved_to mount session place listener.seating }

-- the listener sits there now, if it had a seat
abbrev pub with_move : List Listener → ℕ → List ℕ → ℕ → ℕ → List Listener
with_move seats id mount session place = update_first (is_listener id) (moved mount session place) seats

-- a seat at the mount is one in this session
abbrev pub in_session_at : List ℕ → ℕ → Seating → Seating
in_session_at mount session (Sits seat) = Sits (record seat { session = (if bytes_eq seat.mount mount then session else seat.session) })
in_session_at mount session (Finished rule last) = Finished rule last

-- rule: Session after a wait
abbrev pub hears_session : List ℕ → ℕ → Listener → Listener
hears_session mount session listener = record listener { seating = in_session_at mount session listener.seating }

-- all who sit at the mount hear this session, each from the place where it is
-- rule: Session after a wait
abbrev pub with_session_at : List Listener → List ℕ → ℕ → List Listener
with_session_at seats mount session = map (hears_session mount session) seats

-- a seat is lost by the rule, at its mount; who has finished before has finished by its own
abbrev pub lost_by : Rule → Seating → Seating
lost_by rule (Sits seat) = Finished rule seat.mount
lost_by rule (Finished other mount) = Finished other mount

abbrev pub loses : Rule → Listener → Listener
loses rule listener = record listener { seating = lost_by rule listener.seating }

-- the listener has lost its seat by the rule, if it had one
abbrev pub with_end : List Listener → ℕ → Rule → List Listener
with_end seats id rule = update_first (is_listener id) (loses rule) seats

-- it is a seat of which this holds
abbrev pub holds_of : (Seat → Bool) → Seating → Bool
holds_of p (Sits seat) = p seat
holds_of p (Finished rule mount) = false

-- such a seat ends by the rule; any other stays
abbrev pub ended_if : (Seat → Bool) → Rule → Seating → Seating
ended_if p rule seating = (if holds_of p seating then lost_by rule seating else seating)

abbrev pub finished_if : (Seat → Bool) → Rule → Listener → Listener
finished_if p rule listener = record listener { seating = ended_if p rule listener.seating }

-- all such seats have ended by the rule
abbrev pub with_ended : List Listener → (Seat → Bool) → Rule → List Listener
with_ended seats p rule = map (finished_if p rule) seats

abbrev pub is_seat_at : List ℕ → Seating → Bool
is_seat_at mount (Sits seat) = bytes_eq seat.mount mount
is_seat_at mount (Finished rule last) = false

-- nothing is left of the listener
abbrev pub without_listener : List Listener → ℕ → List Listener
without_listener seats id = filter (λ listener. not (is_listener id listener)) seats

-- who sits at the mount
abbrev pub seats_at : List Listener → List ℕ → List Listener
seats_at seats mount = filter (λ listener. is_seat_at mount listener.seating) seats

-- how many sit there; who has finished does not count
abbrev pub count_at : List Listener → List ℕ → ℕ
count_at seats mount = length (seats_at seats mount)

-- where it sits, or sat last
abbrev pub last_mount : Seating → List ℕ
last_mount (Sits seat) = seat.mount
last_mount (Finished rule mount) = mount

-- the mount where the listener of this number sits, or sat last, if it is one
-- rule: Last mount
abbrev pub last_mount_of : List Listener → ℕ → Option (List ℕ)
last_mount_of seats id = option_map (λ listener. last_mount listener.seating) (listener_of seats id)

-- how many sit there, or sat there last
abbrev pub named_at : List Listener → List ℕ → ℕ
named_at seats mount = length (filter (λ listener. bytes_eq (last_mount listener.seating) mount) seats)

-- the pair that was sent has this user; without a pair there is none
abbrev pub has_user : List ℕ → Option Credentials → Bool
has_user user None = false
has_user user (Some pair) = bytes_eq pair.user user

-- the listener of this number sits at the mount, and sent this user
abbrev pub SitsAs : List Listener → ℕ → List ℕ → List ℕ → Type 0
SitsAs seats id mount user = (seat : Seat) × (seat_of seats id ≡ Some seat) × (seat.mount ≡ mount) × (has_user user seat.pair ≡ true)

-- it is a seat at the mount, of one who sent this user
abbrev pub is_user_at : List ℕ → List ℕ → Seating → Bool
is_user_at mount user (Sits seat) = bytes_eq seat.mount mount && has_user user seat.pair
is_user_at mount user (Finished rule last) = false

-- somebody sits at the mount who sent this user
abbrev pub sits_there : List Listener → List ℕ → List ℕ → Bool
sits_there seats mount user = list_any (λ listener. is_user_at mount user listener.seating) seats

-- all but one, where one is left out
abbrev pub others_of : List Listener → Option ℕ → List Listener
others_of seats None = seats
others_of seats (Some own) = without_listener seats own

-- the listener sits at the mount
abbrev pub sits_at : List Listener → ℕ → List ℕ → Bool
sits_at seats id mount = option_map_or (λ seat. bytes_eq seat.mount mount) (seat_of seats id) false

-- the least number past the last one, or of all if there is no last one
abbrev pub next_number : List Listener → Option ℕ → Option ℕ
next_number seats last = option_map (λ listener. listener.id) (find (λ listener. is_past nat_cmp last listener.id) seats)
