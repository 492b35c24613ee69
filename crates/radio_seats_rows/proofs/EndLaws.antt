-- who keeps its seat, and who loses it, where all seats end of which something holds
use Rattle.std.proofs.Common.{◌≡◌, ◌⊎◌, inl, inr, Bool, true, false, ℕ, Option, Some, None, List, refl, ap, sym, ◌∙◌}
use Rattle.std.specs.Prelude.{if◌then◌else◌}
use Rattle.std.specs.Option.{option_map}
use Rattle.radio_policy.specs.declared.rule.Rule.{Rule}
use Rattle.radio_tables.proofs.FindLaws.{find_mapped}
use Rattle.radio_seats_rows.specs.declared.seat.Listener.{Listener}
use Rattle.radio_seats_rows.specs.declared.seat.Seat.{Seat}
use Rattle.radio_seats_rows.specs.declared.seat.Seating.{Seating}
use Rattle.radio_seats_rows.specs.declared.seat.Seating.TheVariants.{Sits, Finished}
use Rattle.radio_seats_rows.specs.Seats.{is_listener, listener_of, seat_held, seat_in, seat_of, is_seat_at, holds_of, lost_by, ended_if, finished_if, with_ended}
use Rattle.radio_seats_rows.proofs.CountLaws.{NobodyCame, no_more_mapped}

-- the listener had a seat of which it holds, and has finished where it sat
pub record LosesSeat (p : Seat → Bool) (rule : Rule) (before later : Option Listener) : Type 0 where
  pub seat : Seat
  pub had_a_seat : seat_in before ≡ Some seat
  pub holds : p seat ≡ true
  pub id : ℕ
  pub finished : later ≡ Some (record { id = id; seating = Finished rule seat.mount })

module _ (p : Seat → Bool) (rule : Rule) where
  pub have_ended : (seats : List Listener) (id : ℕ) → listener_of (with_ended seats p rule) id ≡ option_map (finished_if p rule) (listener_of seats id)
  have_ended seats id = find_mapped (is_listener id) (finished_if p rule) (λ x. refl) seats

  -- a listener is as it was, or loses its seat
  abbrev IsSameOrLoses : Option Listener → Option Listener → Type 0
  IsSameOrLoses before later = (later ≡ before) ⊎ LosesSeat p rule before later

  same_or_loses_at : (id : ℕ) (seat : Seat) (b : Bool) → p seat ≡ b
      → IsSameOrLoses (Some (record { id = id; seating = Sits seat })) (Some (record { id = id; seating = (if b then Finished rule seat.mount else Sits seat) }))
  same_or_loses_at id seat true e = inr (record { seat = seat; had_a_seat = refl; holds = e; id = id; finished = refl })
  same_or_loses_at id seat false e = inl refl

  same_or_loses_seating : (id : ℕ) (seating : Seating)
      → IsSameOrLoses (Some (record { id = id; seating = seating })) (Some (record { id = id; seating = ended_if p rule seating }))
  same_or_loses_seating id (Sits seat) = same_or_loses_at id seat (p seat) refl
  same_or_loses_seating id (Finished other mount) = inl refl

  same_or_loses_in : (listener : Option Listener) → IsSameOrLoses listener (option_map (finished_if p rule) listener)
  same_or_loses_in None = inl refl
  same_or_loses_in (Some listener) = same_or_loses_seating listener.id listener.seating

  pub same_or_loses : (seats : List Listener) (id : ℕ) → IsSameOrLoses (listener_of seats id) (listener_of (with_ended seats p rule) id)
  same_or_loses seats id = rw (have_ended seats id) (same_or_loses_in (listener_of seats id))

  -- whose seat is left had it before
  pub had_seat : (seats : List Listener) (id : ℕ) (seat : Seat) → seat_of (with_ended seats p rule) id ≡ Some seat → seat_of seats id ≡ Some seat
  had_seat seats id seat e = by_loss (same_or_loses seats id) where
    by_loss : IsSameOrLoses (listener_of seats id) (listener_of (with_ended seats p rule) id) → seat_of seats id ≡ Some seat
    by_loss (inl same) = sym (ap seat_in same) ∙ e
    by_loss (inr loses) = let none : seat_of (with_ended seats p rule) id ≡ None = ap seat_in loses.finished in cc

  -- so nobody has come
  not_ended : (mount : List ℕ) (seating : Seating) (b : Bool) → is_seat_at mount (if b then lost_by rule seating else seating) ≡ true → is_seat_at mount seating ≡ true
  not_ended mount seating true h = let none : is_seat_at mount (lost_by rule seating) ≡ false = no_seat seating in cc where
    no_seat : (other : Seating) → is_seat_at mount (lost_by rule other) ≡ false
    no_seat (Sits seat) = refl
    no_seat (Finished by last) = refl
  not_ended mount seating false h = h

  pub nobody_came_ending : (seats : List Listener) → NobodyCame seats (with_ended seats p rule)
  nobody_came_ending seats = record {
    no_more = λ mount. no_more_mapped (λ listener. is_seat_at mount listener.seating) (finished_if p rule)
        (λ listener e. not_ended mount listener.seating (holds_of p listener.seating) e) seats;
    sat = λ id mount user sits. (sits.0, had_seat seats id sits.0 sits.1, sits.2, sits.3);
  }

  -- of whose seat is left, it does not hold
  kept_at : (old seat : Seat) (b : Bool) → p old ≡ b → seat_held (if b then Finished rule old.mount else Sits old) ≡ Some seat → p seat ≡ false
  kept_at old seat true e h = cc
  kept_at old seat false e h = let same : old ≡ seat = cc in ap p (sym same) ∙ e

  kept_seating : (seating : Seating) (seat : Seat) → seat_held (ended_if p rule seating) ≡ Some seat → p seat ≡ false
  kept_seating (Sits old) seat h = kept_at old seat (p old) refl h
  kept_seating (Finished other mount) seat h = cc

  kept_in : (listener : Option Listener) (seat : Seat) → seat_in (option_map (finished_if p rule) listener) ≡ Some seat → p seat ≡ false
  kept_in None seat h = cc
  kept_in (Some listener) seat h = kept_seating listener.seating seat h

  pub kept_seat : (seats : List Listener) (id : ℕ) (seat : Seat) → seat_of (with_ended seats p rule) id ≡ Some seat → p seat ≡ false
  kept_seat seats id seat e = kept_in (listener_of seats id) seat (sym (ap seat_in (have_ended seats id)) ∙ e)
