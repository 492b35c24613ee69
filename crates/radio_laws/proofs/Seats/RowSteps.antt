-- what becomes of the row of one listener by each change of the table
use Rattle.std.proofs.Common.{◌≡◌, ◌⊎◌, inl, inr, Bool, ℕ, Option, Some, None, List, refl, ap, sym, subst, ◌∙◌}
use Rattle.radio_laws.proofs.Words.{option_map, Rule, by_number, Listener, Seat, Seating, is_listener, listener_of, seat_in, seat_of, last_mount, AreByNumber, in_session_at, hears_session, with_session_at, with_place}
use Rattle.radio_laws.proofs.Words.{lost_by, loses, with_end, with_ended, LosesSeat, same_or_loses, listener_hearing, seat_hearing, beside_moved, has_heard, Move, Sight, seat_at_end, carried, found_changed, beside}
use Rattle.radio_laws.proofs.Words.{Faring, HasStayed, HasGone, HasLost, fares}
use Rattle.radio_seats_rows.specs.declared.seat.Seating.TheVariants.{Sits as HasSeat, Finished as HasLostIt}

-- what becomes of the row of a listener
pub data RowStep (before later : Option Listener) : Type 0 where
  -- it is as it was
  IsSame : later ≡ before → RowStep before later
  -- it had a seat, and has one
  SitsOn : (seat now : Seat) → seat_in before ≡ Some seat → seat_in later ≡ Some now → RowStep before later
  -- it had a seat, and has lost it at that mount
  LosesIt : (seat : Seat) (rule : Rule) (number : ℕ) → seat_in before ≡ Some seat
      → later ≡ Some (record { id = number; seating = HasLostIt rule seat.mount }) → RowStep before later

-- so a listener without a seat is left alone
pub none_changed : (before later : Option Listener) → RowStep before later → seat_in before ≡ None → later ≡ before
none_changed before later (IsSame same) none = same
none_changed before later (SitsOn seat now had sits) none = let both : None ≡ Some seat = sym none ∙ had in cc
none_changed before later (LosesIt seat rule number had lost) none = let both : None ≡ Some seat = sym none ∙ had in cc

-- and the last mount of a listener that has lost its seat is the one of that seat
pub last_at : (before later : Option Listener) → RowStep before later → (seat : Seat) → seat_in before ≡ Some seat → seat_in later ≡ None
    → option_map (λ listener. last_mount listener.seating) later ≡ Some seat.mount
last_at before later (IsSame same) seat has none = let both : None ≡ Some seat = sym none ∙ ap seat_in same ∙ has in cc
last_at before later (SitsOn old now had sits) seat has none = cc
last_at before later (LosesIt old rule number had lost) seat has none =
    let both : Some old ≡ Some seat = sym had ∙ has in
    let same : old ≡ seat = cc in
    ap (option_map (λ listener. last_mount listener.seating)) lost ∙ ap (λ (x : Seat). Some x.mount) same

-- each change of the table, but that somebody comes or goes
module _ (seats : List Listener) (id : ℕ) where
  abbrev pub Steps : List Listener → Type 0
  Steps later = RowStep (listener_of seats id) (listener_of later id)

  pub step_ended : (p : Seat → Bool) (rule : Rule) → Steps (with_ended seats p rule)
  step_ended p rule = by_loss (same_or_loses p rule seats id) where
    by_loss : (listener_of (with_ended seats p rule) id ≡ listener_of seats id)
        ⊎ LosesSeat p rule (listener_of seats id) (listener_of (with_ended seats p rule) id) → Steps (with_ended seats p rule)
    by_loss (inl same) = IsSame same
    by_loss (inr lost) = LosesIt lost.seat rule lost.id lost.had_a_seat lost.finished

  pub step_carried : (sight : Sight) (move : Move) → AreByNumber seats → Steps (carried sight move seats).seats
  step_carried sight move order = by_fare (fares sight move seats order id) where
    by_fare : Faring sight move seats id → Steps (carried sight move seats).seats
    by_fare (HasStayed same turn) = IsSame same
    by_fare (HasGone seat to turn had concerned fits now) = SitsOn seat (seat_at_end sight to seat) had (ap seat_in now)
    by_fare (HasLost seat rule turn had concerned now) = LosesIt seat rule id had now

  pub step_lost : (him : ℕ) (rule : Rule) → Steps (with_end seats him rule)
  step_lost him rule =
      by_number him id
      (λ same. subst (λ (n : ℕ). Steps (with_end seats n rule)) (sym same)
      (rw (found_changed (is_listener id) (loses rule) (λ x. refl) seats) (his (listener_of seats id))))
      (λ apart. IsSame (beside (loses rule) (λ x. refl) seats him id apart)) where
        by_seating : (number : ℕ) (seating : Seating)
            → RowStep (Some (record { id = number; seating = seating })) (Some (record { id = number; seating = lost_by rule seating }))
        by_seating number (HasSeat seat) = LosesIt seat rule number refl refl
        by_seating number (HasLostIt other last) = IsSame refl

        his : (found : Option Listener) → RowStep found (option_map (loses rule) found)
        his None = IsSame refl
        his (Some listener) = by_seating listener.id listener.seating

  pub step_heard : (him place : ℕ) (seat : Seat) → seat_of seats him ≡ Some seat → Steps (with_place seats him place)
  step_heard him place seat has =
      by_number him id
      (λ same. SitsOn seat (record seat { place = place }) (ap (seat_of seats) (sym same) ∙ has)
      (ap (seat_of (with_place seats him place)) (sym same) ∙ has_heard seats him place seat has))
      (λ apart. IsSame (beside_moved seats him id apart place))

  -- a listener at a mount whose session begins sits there still
  pub step_given : (mount : List ℕ) (session : ℕ) (later : Option Listener) → RowStep (listener_of (with_session_at seats mount session) id) later
      → RowStep (listener_of seats id) later
  step_given mount session later step =
      hearing (listener_of seats id) (subst (λ (row : Option Listener). RowStep row later) (listener_hearing mount session seats id) step) where
        seated : (number : ℕ) (seat : Seat) → RowStep (Some (record { id = number; seating = HasSeat (seat_hearing mount session seat) })) later
            → RowStep (Some (record { id = number; seating = HasSeat seat })) later
        seated number seat (IsSame same) = SitsOn seat (seat_hearing mount session seat) refl (ap seat_in same)
        seated number seat (SitsOn old now had sits) = SitsOn seat now refl sits
        seated number seat (LosesIt old rule him had lost) =
            let same : seat_hearing mount session seat ≡ old = cc in
            LosesIt seat rule him refl (lost ∙ ap (λ (x : Seat). Some (record { id = him; seating = HasLostIt rule x.mount })) (sym same))

        by_seating : (number : ℕ) (seating : Seating) → RowStep (Some (record { id = number; seating = in_session_at mount session seating })) later
            → RowStep (Some (record { id = number; seating = seating })) later
        by_seating number (HasSeat seat) given = seated number seat given
        by_seating number (HasLostIt rule last) given = given

        hearing : (found : Option Listener) → RowStep (option_map (hears_session mount session) found) later → RowStep found later
        hearing None given = given
        hearing (Some listener) given = by_seating listener.id listener.seating given
