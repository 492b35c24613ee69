-- which listener is found, and who has a seat, after each change of the table
use Rattle.std.proofs.Common.{◌≡◌, true, false, ℕ, ◌==◌, Option, Some, None, List, refl, ap, sym, ◌∙◌}
use Rattle.std.specs.Ordering.{nat_cmp}
use Rattle.std.proofs.lemmas.Bool.{eqb-true}
use Rattle.std.proofs.lemmas.Cmp.{nat_cmp_total}
use Rattle.radio_tables.proofs.FindLaws.{find_same, find_apart, find_removed, find_others}
use Rattle.radio_tables.proofs.KeyLaws.{number_is, find_placed}
use Rattle.radio_seats_rows.specs.declared.seat.Listener.{Listener}
use Rattle.radio_seats_rows.specs.declared.seat.Seat.{Seat}
use Rattle.radio_seats_rows.specs.declared.seat.Seating.{Seating}
use Rattle.radio_seats_rows.specs.declared.seat.Seating.TheVariants.{Sits, Finished}
use Rattle.radio_seats_rows.specs.Seats.{is_listener, listener_of, seat_held, seat_in, seat_of, seated, with_seat, heard_to, advanced, with_place}
use Rattle.radio_seats_rows.specs.Seats.{without_listener}

-- any other listener is found as before
module _ (seats : List Listener) (him id : ℕ) (other : (him == id) ≡ false) where
  not_his : (x : Listener) → is_listener him x ≡ true → is_listener id x ≡ false
  not_his x e = ap (λ n. n == id) (eqb-true x.id him e) ∙ other

  pub beside_moved : (place : ℕ) → listener_of (with_place seats him place) id ≡ listener_of seats id
  beside_moved place = find_apart (is_listener id) (is_listener him) (advanced place) (λ x e. (not_his x e, not_his x e)) seats

  pub beside_left : listener_of (without_listener seats him) id ≡ listener_of seats id
  beside_left = find_others (is_listener id) (is_listener him) not_his seats

  pub beside_seated : (seat : Seat) → listener_of (with_seat seats him seat) id ≡ listener_of seats id
  beside_seated seat =
      find_placed nat_cmp nat_cmp_total (λ (listener : Listener). listener.id) is_listener (λ k listener. number_is k listener.id) id (seated him seat) seats
      ∙ rw other refl

-- and it itself as the change has made it
pub has_moved : (seats : List Listener) (id place : ℕ) (listener : Listener) → listener_of seats id ≡ Some listener
    → listener_of (with_place seats id place) id ≡ Some (advanced place listener)
has_moved seats id place listener e = find_same (is_listener id) (advanced place) (λ x. refl) seats listener e

pub is_no_listener : (seats : List Listener) (id : ℕ) → listener_of (without_listener seats id) id ≡ None
is_no_listener seats id = find_removed (is_listener id) (is_listener id) seats

pub has_sat_down : (seats : List Listener) (id : ℕ) (seat : Seat) → (id == id) ≡ true → listener_of (with_seat seats id seat) id ≡ Some (seated id seat)
has_sat_down seats id seat e =
    find_placed nat_cmp nat_cmp_total (λ (listener : Listener). listener.id) is_listener (λ k listener. number_is k listener.id) id (seated id seat) seats
    ∙ rw e refl

-- who has a seat is one of the listeners
pub listener_seated : (seats : List Listener) (id : ℕ) (seat : Seat) → seat_of seats id ≡ Some seat
    → (listener : Listener) × (listener_of seats id ≡ Some listener) × (seat_held listener.seating ≡ Some seat)
listener_seated seats id seat e = by_found (listener_of seats id) refl where
  by_found : (found : Option Listener) → listener_of seats id ≡ found
      → (listener : Listener) × (listener_of seats id ≡ Some listener) × (seat_held listener.seating ≡ Some seat)
  by_found None none = let is_none : seat_of seats id ≡ None = ap seat_in none in cc
  by_found (Some listener) found = (listener, found, sym (ap seat_in found) ∙ e)

-- and its seat is the same, further on
pub has_heard : (seats : List Listener) (id place : ℕ) (seat : Seat) → seat_of seats id ≡ Some seat
    → seat_of (with_place seats id place) id ≡ Some (record seat { place = place })
has_heard seats id place seat has =
    let listener = listener_seated seats id seat has in
    ap seat_in (has_moved seats id place listener.0 listener.1) ∙ held listener.0.seating listener.2 where
      held : (seating : Seating) → seat_held seating ≡ Some seat → seat_held (heard_to place seating) ≡ Some (record seat { place = place })
      held (Sits old) e = let same : old ≡ seat = cc in ap (λ (x : Seat). Some (record x { place = place })) same
      held (Finished rule mount) e = cc
