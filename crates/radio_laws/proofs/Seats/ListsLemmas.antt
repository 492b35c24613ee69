-- A client that has arrived passes the address lists. A listener that sits at a mount is let in by its users.
use Rattle.std.proofs.Common.{◌≡◌, ◌⊎◌, inl, inr, true, ℕ, ◌+◌, ◌<◌, Option, Some, List, [], ◌∷◌, length, refl, ap, sym, subst, ◌∙◌}
use Rattle.radio_laws.proofs.Words.{Peer, Rule, Settings, Lists, passes, lets_in, Event, Seat, seat_of, Undecided, Finishes, handed_at, first_seat, world_after_all, run_after, SeatStep, IsHanded, SitsDown, IsMoved}
use Rattle.radio_laws.proofs.Words.{IsGiven, IsSound, world_after, data_at, World, opening, standing_of, undecided_before, and_parts, lands_where_he_fits, sight_of, moved_into, seats_step, UserList, with_user}
use Rattle.radio_laws.proofs.Words.{without_user, with_changed, let_in_beside, ListenerPassword, by_name, had_seat, is_shut_out, answered, outsiders_ended, ListsStep, Stay, IsAdded, IsDeleted, with_lists, lists_step}
use Rattle.radio_laws.proofs.Words.{sound_after, sound_opening, SittersAreLetIn}
use Rattle.radio_core.specs.SeatSteps.{Stays, Leaves as HeLeaves, IsEnded as HeIsEnded}
use Rattle.radio_laws.proofs.Commands.CommandSteps.{later_so}
use Rattle.radio_laws.proofs.Commands.UserChanges.{left, still_let_in, users_step}

-- the address of the seat passes the address lists, and its mount lets in its pair
pub record IsLetIn (lists : Lists) (seat : Seat) : Type 0 where
  pub passing : passes lists seat.peer ≡ true
  pub accepted : lets_in lists seat.mount seat.pair ≡ true

pub record KeepsLists (w : World) : Type 0 where
  pub arrived : (id : ℕ) (peer : Peer) → standing_of w id ≡ Undecided peer → passes w.station.lists peer ≡ true
  pub seated : (id : ℕ) (seat : Seat) → seat_of w.seats id ≡ Some seat → IsLetIn w.station.lists seat

module _ (w : World) (s : IsSound w) (k : KeepsLists w) where
  -- a listener with a seat after an event that leaves the lists had it before, or has just sat down at a mount that lets it in
  seated_by : (C : Rule → Type 0) (event : Event) (id : ℕ) (before : Option Seat) (bytes : List ℕ) (later : Option Seat)
      → SeatStep w C event id before bytes later → (world_after w event).station.lists ≡ w.station.lists → seat_of w.seats id ≡ before → (seat : Seat)
      → later ≡ Some seat → IsLetIn w.station.lists seat
  seated_by C event id before bytes later (Stays still) same had seat has = k.seated id seat (had ∙ has)
  seated_by C event id before bytes later (IsHanded old session room e live number within) same had seat has =
      let one : record old { place = old.place + length (data_at session.stream old.place room) } ≡ seat = cc in
      let is = k.seated id old had in
      subst (λ (x : Seat). IsLetIn w.station.lists x) one (record { passing = is.passing; accepted = is.accepted })
  seated_by C event id before bytes later (SitsDown asked peer session e his undecided lands live allowed) same had seat has =
      let one : first_seat w.station asked peer session ≡ seat = cc in
      let fits = lands_where_he_fits (sight_of w.station) w.seats asked.pair asked.mount session.mount lands in
      subst (λ (x : Seat). IsLetIn w.station.lists x) one (record {
        passing = k.arrived id peer undecided;
        accepted = (and_parts (lets_in w.station.lists session.mount asked.pair) _ fits.is_open).0;
      })
  seated_by C event id before bytes later (IsMoved old session takes sent live opens apart) same had seat has =
      let one : moved_into session old ≡ seat = cc in
      let is = k.seated id old had in
      subst (λ (x : Seat). IsLetIn w.station.lists x) one (record { passing = is.passing; accepted = ap (λ (x : Lists). lets_in x session.mount old.pair) (sym same) ∙ opens })
  seated_by C event id before bytes later (IsGiven old session coming idle live empty waits start past) same had seat has =
      let one : record old { session = session.number } ≡ seat = cc in
      let is = k.seated id old had in
      subst (λ (x : Seat). IsLetIn w.station.lists x) one (record { passing = is.passing; accepted = is.accepted })
  seated_by C event id before bytes later (HeLeaves old left) same had seat has = cc
  seated_by C event id before bytes later (HeIsEnded old rule cause) same had seat has = cc

  arrived_before : (id : ℕ) (peer : Peer) → (standing_of w id ≡ Undecided peer) ⊎ ((w.station.last_id < id) × (passes w.station.lists peer ≡ true))
      → passes w.station.lists peer ≡ true
  arrived_before id peer (inl before) = k.arrived id peer before
  arrived_before id peer (inr new) = new.1

  -- after a command has changed the users of a mount, nobody sits there whom they do not let in
  module _ (event : Event) (him : ℕ) (mount : List ℕ) (change : UserList → UserList)
      (is_later : world_after w event ≡ outsiders_ended (with_lists (answered w him) (with_changed w.station.lists mount change)) mount) where
    abbrev now : Lists
    now = with_changed w.station.lists mount change

    changed_seated : (id : ℕ) (seat : Seat) → seat_of (world_after w event).seats id ≡ Some seat → IsLetIn now seat
    changed_seated id seat has =
        let still : seat_of (left now mount w.seats) id ≡ Some seat = ap (λ (x : World). seat_of x.seats id) (sym is_later) ∙ has in
        let is = k.seated id seat (had_seat (is_shut_out now mount) ListenerPassword w.seats id seat still) in
        record {
          passing = is.passing;
          accepted = by_name mount seat.mount
              (λ at. ap (λ (m : List ℕ). lets_in now m seat.pair) (sym at) ∙ still_let_in now mount w.seats id seat still (sym at))
              (λ apart. let_in_beside w.station.lists mount change seat.mount seat.pair apart ∙ is.accepted);
        }

  seated_now : (event : Event) {later : Lists} → ListsStep w event w.station.lists later → (world_after w event).station.lists ≡ later → (id : ℕ) (seat : Seat)
      → seat_of (world_after w event).seats id ≡ Some seat → IsLetIn later seat
  seated_now event Stay same id seat h =
      seated_by (Finishes w event id) event id (seat_of w.seats id) (handed_at w event id) (seat_of (world_after w event).seats id) (seats_step w s event id)
      same refl seat h
  seated_now event (IsAdded mount user password c) same id seat h =
      changed_seated event c.asked.id mount (λ users. with_user users user password) (later_so w event c) id seat h
  seated_now event (IsDeleted mount user c) same id seat h =
      changed_seated event c.asked.id mount (λ users. without_user users user) (later_so w event c) id seat h

  pub lists_after : (event : Event) → KeepsLists (world_after w event)
  lists_after event = record {
    arrived = λ id peer e. (users_step w s event).addresses peer ∙ arrived_before id peer (undecided_before w s event id peer e);
    seated = λ id seat h. seated_now event (lists_step w s event) refl id seat h;
  }

lists_after_all : (w : World) → IsSound w → KeepsLists w → (events : List Event) → KeepsLists (world_after_all w events)
lists_after_all w s k [] = k
lists_after_all w s k (event ∷ events) = lists_after_all (world_after w event) (sound_after w s event) (lists_after w s k event) events

pub lists_run : (settings : Settings) (lists : Lists) (events : List Event) → KeepsLists (run_after settings lists events)
lists_run settings lists events = lists_after_all (opening settings lists) (sound_opening settings lists) (record {
  arrived = λ id peer e. cc;
  seated = λ id seat e. cc;
}) events

-- so the present users of its mount let in each listener that sits there
pub sitters_run : (settings : Settings) (lists : Lists) (events : List Event) → SittersAreLetIn (run_after settings lists events)
sitters_run settings lists events id seat has = ((lists_run settings lists events).seated id seat has).accepted
