-- what is read of the listeners does not go by how far anybody has heard, but for a seat's place
use Rattle.std.proofs.Common.{◌≡◌, Bool, ℕ, Option, Some, None, List, [], ◌∷◌, length, refl, ap, ◌∙◌}
use Rattle.radio_parts_table.proofs.Words.{min, fold, filter_map, unwrap_or, option_map, bytes_eq, eqb-true, found_passes, Guest, Listener, Seat, Seating, Sits, Finished, moment_in, first_moment, is_listener}
use Rattle.radio_parts_table.proofs.Words.{listener_of, seat_held, seat_in, seat_of, last_mount, last_mount_of, named_at, map_counted, standing_in, standing_by, ListedGuest, guest_at, guest_sitting, guests_at, Heard}
use Rattle.radio_parts_table.proofs.Words.{heard_seating, heard_by, heard, listener_heard}

module _ (f : Heard) where
  -- a seat, with the place of the attachment
  abbrev pub heard_seat : ℕ → Seat → Seat
  heard_seat id seat = record seat { place = unwrap_or (f seat.mount id) seat.place }

  held_heard : (n : ℕ) (seating : Seating) → seat_held (heard_seating f n seating) ≡ option_map (heard_seat n) (seat_held seating)
  held_heard n (Sits seat) = refl
  held_heard n (Finished rule mount) = refl

  pub seat_heard : (seats : List Listener) (id : ℕ) → seat_of (heard f seats) id ≡ option_map (heard_seat id) (seat_of seats id)
  seat_heard seats id = ap seat_in (listener_heard f seats id) ∙ by_found (listener_of seats id) refl where
    by_found : (found : Option Listener) → listener_of seats id ≡ found → seat_in (option_map (heard_by f) found) ≡ option_map (heard_seat id) (seat_in found)
    by_found None e = refl
    by_found (Some listener) e =
        held_heard listener.id listener.seating
        ∙ ap (λ n. option_map (heard_seat n) (seat_held listener.seating)) (eqb-true listener.id id (found_passes (is_listener id) seats listener e))

  -- how one stands
  stands_so : (n : ℕ) (seating : Seating) → standing_by (heard_seating f n seating) ≡ standing_by seating
  stands_so n (Sits seat) = refl
  stands_so n (Finished rule mount) = refl

  pub standing_heard : (seats : List Listener) (id : ℕ) → standing_in (listener_of (heard f seats) id) ≡ standing_in (listener_of seats id)
  standing_heard seats id = ap standing_in (listener_heard f seats id) ∙ by_found (listener_of seats id) where
    by_found : (found : Option Listener) → standing_in (option_map (heard_by f) found) ≡ standing_in found
    by_found None = refl
    by_found (Some listener) = ap (λ s. Some s) (stands_so listener.id listener.seating)

  -- where it sits, or sat last
  sat_so : (n : ℕ) (seating : Seating) → last_mount (heard_seating f n seating) ≡ last_mount seating
  sat_so n (Sits seat) = refl
  sat_so n (Finished rule mount) = refl

  pub last_heard : (seats : List Listener) (id : ℕ) → last_mount_of (heard f seats) id ≡ last_mount_of seats id
  last_heard seats id = ap (option_map (λ (l : Listener). last_mount l.seating)) (listener_heard f seats id) ∙ by_found (listener_of seats id) where
    by_found : (found : Option Listener)
        → option_map (λ (l : Listener). last_mount l.seating) (option_map (heard_by f) found) ≡ option_map (λ (l : Listener). last_mount l.seating) found
    by_found None = refl
    by_found (Some listener) = ap (λ m. Some m) (sat_so listener.id listener.seating)

  -- so many sit there, or sat there last
  pub named_heard : (mount : List ℕ) (seats : List Listener) → named_at (heard f seats) mount ≡ named_at seats mount
  named_heard mount seats =
      map_counted (heard_by f) (λ (l : Listener). bytes_eq (last_mount l.seating) mount) (λ (l : Listener). bytes_eq (last_mount l.seating) mount)
      (λ l. ap (λ m. bytes_eq m mount) (sat_so l.id l.seating)) seats

  -- the first moment of those who sit
  moment_so : (moment : Guest → ℕ) (other n : ℕ) (seating : Seating) → moment_in moment other (heard_seating f n seating) ≡ moment_in moment other seating
  moment_so moment other n (Sits seat) = refl
  moment_so moment other n (Finished rule mount) = refl

  moments_from : (moment : Guest → ℕ) (last : ℕ) (seats : List Listener) (first : ℕ)
      → fold (λ first (l : Listener). min first (moment_in moment last l.seating)) first (heard f seats)
      ≡ fold (λ first (l : Listener). min first (moment_in moment last l.seating)) first seats
  moments_from moment last [] first = refl
  moments_from moment last (l ∷ seats) first =
      ap (λ n. fold (λ first (x : Listener). min first (moment_in moment last x.seating)) (min first n) (heard f seats)) (moment_so moment last l.id l.seating)
      ∙ moments_from moment last seats (min first (moment_in moment last l.seating))

  pub moments_heard : (moment : Guest → ℕ) (last : ℕ) (seats : List Listener) → first_moment moment last (heard f seats) ≡ first_moment moment last seats
  moments_heard moment last seats = moments_from moment last seats last

  -- as many
  pub many_heard : (seats : List Listener) → length (heard f seats) ≡ length seats
  many_heard [] = refl
  many_heard (l ∷ seats) = ap (λ n. Rattle.std.proofs.Common.suc n) (many_heard seats)

  -- who sits at the mount
  module _ (mount : List ℕ) where
    guest_so : (n : ℕ) (seating : Seating) → guest_sitting mount n (heard_seating f n seating) ≡ guest_sitting mount n seating
    guest_so n (Sits seat) = refl
    guest_so n (Finished rule last) = refl

    guests_from : (a b : Option ListedGuest) (l m : Listener) (seats : List Listener) → a ≡ b → guest_at mount l ≡ a → guest_at mount m ≡ b
        → guests_at (heard f seats) mount ≡ guests_at seats mount → filter_map (guest_at mount) (l ∷ heard f seats) ≡ filter_map (guest_at mount) (m ∷ seats)
    guests_from None None l m seats e la mb later = rw (la, mb) later
    guests_from (Some x) (Some y) l m seats e la mb later = let same : x ≡ y = cc in rw (la, mb) (ap (λ z. z ∷ guests_at (heard f seats) mount) same ∙ ap (λ zs. y ∷ zs) later)
    guests_from None (Some y) l m seats e la mb later = cc
    guests_from (Some x) None l m seats e la mb later = cc

    pub guests_heard : (seats : List Listener) → guests_at (heard f seats) mount ≡ guests_at seats mount
    guests_heard [] = refl
    guests_heard (l ∷ seats) =
        guests_from (guest_sitting mount l.id (heard_seating f l.id l.seating)) (guest_sitting mount l.id l.seating) (heard_by f l) l seats
        (guest_so l.id l.seating) refl refl (guests_heard seats)
