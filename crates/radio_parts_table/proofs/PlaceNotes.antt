-- one has heard more: its attachment has the place, and so has its seat if not all parts are here
use Rattle.std.proofs.Common.{◌≡◌, inl, inr, Bool, true, false, ℕ, ◌==◌, Option, Some, None, List, [], ◌∷◌, refl, ap, sym, subst, ◌∙◌, arith}
use Rattle.radio_parts_table.proofs.Words.{if◌then◌else◌, unwrap_or, AllByRecursion, nat_cmp, Less, eqb-true, nat_tests, sorted_head, sorted_tail, Each, Listener, Seat, Seating, Sits, Finished, seat_held, seat_of}
use Rattle.radio_parts_table.proofs.Words.{heard_to, advanced, with_place, AreByNumber, listener_seated, numbers_of, Heard, heard, heard_by, heard_seating, OthersStay, IsAt, Fits, GoesOver, all_stay, each_apart}
use Rattle.radio_parts_table.proofs.Words.{seating_stays}
use Rattle.radio_parts_table.proofs.FitsChanges.{further_fits}
use Rattle.radio_parts_table.proofs.ListenersLemmas.{has_heard, of_his}

module _ (f g : Heard) (id place : ℕ) (stay : OthersStay f g id) where
  placed : (found : Option ℕ) → IsAt found place → unwrap_or found place ≡ place
  placed None at = refl
  placed (Some other) (inl none) = cc
  placed (Some other) (inr same) = cc

  flipped : (n : ℕ) → (n == id) ≡ false → (id == n) ≡ false
  flipped n e = grind (arith, nat_tests, e)

  abbrev IsNoted : Listener → Type 0
  IsNoted l = (seat : Seat) → seat_held l.seating ≡ Some seat → IsAt (g seat.mount id) place

  noted_seating : (n : ℕ) → (n == id) ≡ true → (seating : Seating) → ((seat : Seat) → seat_held seating ≡ Some seat → IsAt (g seat.mount id) place)
      → heard_seating g n (heard_to place seating) ≡ heard_to place (heard_seating f n seating)
  noted_seating n e (Sits seat) at =
      ap (λ (k : ℕ). Sits (record seat { place = unwrap_or (g seat.mount k) place })) (eqb-true n id e)
      ∙ ap (λ (found : ℕ). Sits (record seat { place = found })) (placed (g seat.mount id) (at seat refl))
  noted_seating n e (Finished rule mount) at = refl

  noted_at : (l : Listener) (seats : List Listener) (b : Bool) → (l.id == id) ≡ b → ((l.id == id) ≡ true → IsNoted l)
      → AllByRecursion (λ m. nat_cmp l.id m ≡ Less) (numbers_of seats) → heard g (with_place seats id place) ≡ with_place (heard f seats) id place
      → heard g (if b then advanced place l ∷ seats else l ∷ with_place seats id place)
      ≡ (if b then advanced place (heard_by f l) ∷ heard f seats else heard_by f l ∷ with_place (heard f seats) id place)
  noted_at l seats true e at all later =
      ap (λ (seating : Seating). record { id = l.id; seating = seating } ∷ heard g seats) (noted_seating l.id e l.seating (at e))
      ∙ ap (λ ls. advanced place (heard_by f l) ∷ ls) (all_stay f g id stay seats (each_apart f g id stay l.id e seats all))
  noted_at l seats false e at all later =
      ap (λ (seating : Seating). record { id = l.id; seating = seating } ∷ heard g (with_place seats id place))
      (seating_stays f g id stay l.id (flipped l.id e) l.seating)
      ∙ ap (λ ls. heard_by f l ∷ ls) later

  all_noted : (seats : List Listener) → AreByNumber seats → Each (λ (l : Listener). (l.id == id) ≡ true → IsNoted l) seats
      → heard g (with_place seats id place) ≡ with_place (heard f seats) id place
  all_noted [] rising at = refl
  all_noted (l ∷ seats) rising at =
      noted_at l seats (l.id == id) refl at.0 (sorted_head nat_cmp l.id (numbers_of seats) rising)
      (all_noted seats (sorted_tail nat_cmp l.id (numbers_of seats) rising) at.1)

  has_noted : (seat : Seat) (seats : List Listener) → AreByNumber seats → seat_of seats id ≡ Some seat → IsAt (g seat.mount id) place
      → heard g (with_place seats id place) ≡ with_place (heard f seats) id place
  has_noted seat seats rising has there =
      let him = listener_seated seats id seat has in
      all_noted seats rising (of_his IsNoted id f him.0 seats rising him.1 (λ other held. is_there other (sym him.2 ∙ held))) where
        is_there : (other : Seat) → Some seat ≡ Some other → IsAt (g other.mount id) place
        is_there other e = let same : seat ≡ other = cc in subst (λ (s : Seat). IsAt (g s.mount id) place) same there

  -- the seats after it
  abbrev pub noted_in : Bool → List Listener → List Listener
  noted_in whole seats = if whole then seats else with_place seats id place

  module _ (seat : Seat) (seats : List Listener) (has : seat_of seats id ≡ Some seat) (over : GoesOver f g id seat.mount seat.mount) where
    pub after_note : (whole : Bool) → AreByNumber seats → (whole ≡ true → Fits f seats) → IsAt (g seat.mount id) place
        → heard g (noted_in whole seats) ≡ with_place (heard f seats) id place
    after_note true rising fits there = has_heard f g id place seat seats rising (fits refl) has stay over there
    after_note false rising fits there = has_noted seat seats rising has there

    pub noted_fits : (whole : Bool) → (whole ≡ true → Fits f seats) → whole ≡ true → Fits g (noted_in whole seats)
    noted_fits true fits is = further_fits f g id seat seats (fits refl) has stay over
    noted_fits false fits is = cc
