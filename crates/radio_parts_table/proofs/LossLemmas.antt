-- those lose their seats whom a part has found to lag: ended one by one, they are all who lag at the mount
use Rattle.std.proofs.Common.{◌≡◌, Bool, true, false, ℕ, ◌==◌, Option, Some, None, List, [], ◌∷◌, refl, ap, sym, subst, ◌∙◌, arith}
use Rattle.radio_parts_table.proofs.Words.{map, is_some, ◌&&◌, ◌||◌, if◌then◌else◌, unwrap_or, AllByRecursion, option_map_or, nat_cmp, bytes_eq, Less, nat_tests, sorted_head, sorted_tail, bytes_eq-Decides, Each, Rule}
use Rattle.radio_parts_table.proofs.Words.{Listener, Seat, Seating, Sits, Finished, seat_held, loses, lost_by, with_end, with_ended, finished_if, ended_if, AreByNumber, numbers_of, Heard, heard_seating, heard_by, heard}
use Rattle.radio_parts_table.proofs.Words.{ended_if_lost, is_among}

-- it is attached where it sits, and nowhere else
abbrev pub FitsHim : Heard → Listener → Type 0
FitsHim f l = (k : List ℕ) → is_some (f k l.id) ≡ option_map_or (λ (seat : Seat). bytes_eq seat.mount k) (seat_held l.seating) false

module _ (f g : Heard) (m : List ℕ) (q : ℕ → Bool) (rule : Rule) (lost : ℕ → Bool) (is_lost : (id : ℕ) → lost id ≡ option_map_or q (f m id) false)
    (others : (k : List ℕ) (id : ℕ) → lost id ≡ false → g k id ≡ f k id) where
  abbrev pub lags : Seat → Bool
  lags seat = bytes_eq seat.mount m && q seat.place

  not_lost : (id : ℕ) → is_some (f m id) ≡ false → lost id ≡ false
  not_lost id none = is_lost id ∙ by_found (f m id) none where
    by_found : (found : Option ℕ) → is_some found ≡ false → option_map_or q found false ≡ false
    by_found None e = refl
    by_found (Some place) e = cc

  abbrev Shows : ℕ → Seating → Bool → Type 0
  Shows id seating b = heard_by g (if b then loses rule (record { id = id; seating = seating }) else record { id = id; seating = seating })
      ≡ finished_if lags rule (heard_by f (record { id = id; seating = seating }))

  -- it stays who does not lag, and is not lost
  stays : (id : ℕ) (seating : Seating) → lost id ≡ false → ended_if lags rule (heard_seating f id seating) ≡ heard_seating f id seating
      → Shows id seating false
  stays id (Sits seat) e same =
      ap (λ (found : Option ℕ). record { id = id; seating = Sits (record seat { place = unwrap_or found seat.place }) }) (others seat.mount id e)
      ∙ sym (ap (λ (s : Seating). record { id = id; seating = s }) same)
  stays id (Finished other mount) e same = refl

  by_place : (id : ℕ) (seat : Seat) → seat.mount ≡ m → bytes_eq seat.mount m ≡ true → (found : Option ℕ) → f seat.mount id ≡ found → is_some found ≡ true
      → (b : Bool) → option_map_or q found false ≡ b → lost id ≡ b → Shows id (Sits seat) b
  by_place id seat is here None e some b h l = cc
  by_place id seat is here (Some place) e some true h l = rw (e, here, h) refl
  by_place id seat is here (Some place) e some false h l = stays id (Sits seat) l (rw (e, here, h) refl)

  by_seating : (id : ℕ) (seating : Seating) → FitsHim f (record { id = id; seating = seating }) → Shows id seating (lost id)
  by_seating id (Finished other mount) fits =
      let no_loss = not_lost id (fits m) in subst (Shows id (Finished other mount)) (sym no_loss) (stays id (Finished other mount) no_loss refl)
  by_seating id (Sits seat) fits = by_mount (bytes_eq seat.mount m) refl where
    by_mount : (b : Bool) → bytes_eq seat.mount m ≡ b → Shows id (Sits seat) (lost id)
    by_mount false e =
        let no_loss = not_lost id (fits m ∙ e) in subst (Shows id (Sits seat)) (sym no_loss) (stays id (Sits seat) no_loss (rw e refl))
    by_mount true e =
        let is : seat.mount ≡ m = (bytes_eq-Decides seat.mount m).0 e in
        by_place id seat is e (f seat.mount id) refl (fits seat.mount ∙ (bytes_eq-Decides seat.mount seat.mount).1 refl) (lost id)
        (sym (is_lost id ∙ ap (λ (k : List ℕ). option_map_or q (f k id) false) (sym is))) refl

  pub losses_heard : (seats : List Listener) → Each (FitsHim f) seats → heard g (map (ended_if_lost lost rule) seats) ≡ with_ended (heard f seats) lags rule
  losses_heard [] fit = refl
  losses_heard (l ∷ seats) fit =
      ap (λ (x : Listener). x ∷ heard g (map (ended_if_lost lost rule) seats)) (by_seating l.id l.seating fit.0)
      ∙ ap (λ ls. finished_if lags rule (heard_by f l) ∷ ls) (losses_heard seats fit.1)

-- one after another
module _ (rule : Rule) where
  one : ℕ → ℕ → Bool
  one id n = n == id

  none_ends : (id : ℕ) (n : ℕ) → (n == id) ≡ true → (seats : List Listener) → AllByRecursion (λ k. nat_cmp n k ≡ Less) (numbers_of seats)
      → map (ended_if_lost (λ k. k == id) rule) seats ≡ seats
  none_ends id n is [] all = refl
  none_ends id n is (l ∷ seats) all = rw (later l.id all.0) (ap (λ ls. l ∷ ls) (none_ends id n is seats all.1)) where
    later : (k : ℕ) → nat_cmp n k ≡ Less → (k == id) ≡ false
    later k less = grind (arith, nat_tests)

  ends_at : (id : ℕ) (l : Listener) (seats : List Listener) (b : Bool) → (l.id == id) ≡ b → AllByRecursion (λ k. nat_cmp l.id k ≡ Less) (numbers_of seats)
      → with_end seats id rule ≡ map (ended_if_lost (λ k. k == id) rule) seats
      → (if b then loses rule l ∷ seats else l ∷ with_end seats id rule) ≡ (if b then loses rule l else l) ∷ map (ended_if_lost (λ k. k == id) rule) seats
  ends_at id l seats true e all later = ap (λ ls. loses rule l ∷ ls) (sym (none_ends id l.id e seats all))
  ends_at id l seats false e all later = ap (λ ls. l ∷ ls) later

  pub ends_one : (id : ℕ) (seats : List Listener) → AreByNumber seats → with_end seats id rule ≡ map (ended_if_lost (λ k. k == id) rule) seats
  ends_one id [] rising = refl
  ends_one id (l ∷ seats) rising =
      ends_at id l seats (l.id == id) refl (sorted_head nat_cmp l.id (numbers_of seats) rising)
      (ends_one id seats (sorted_tail nat_cmp l.id (numbers_of seats) rising))

  -- and another
  twice : (seating : Seating) → lost_by rule (lost_by rule seating) ≡ lost_by rule seating
  twice (Sits seat) = refl
  twice (Finished other mount) = refl

  pub ends_more : (lost : ℕ → Bool) (id : ℕ) (seats : List Listener)
      → map (ended_if_lost lost rule) (map (ended_if_lost (λ k. k == id) rule) seats) ≡ map (ended_if_lost (λ k. (k == id) || lost k) rule) seats
  ends_more lost id [] = refl
  ends_more lost id (l ∷ seats) = ap (λ (x : Listener). x ∷ map (ended_if_lost lost rule) (map (ended_if_lost (λ k. k == id) rule) seats))
      (by_tests (l.id == id) (lost l.id) refl) ∙ ap (λ ls. ended_if_lost (λ k. (k == id) || lost k) rule l ∷ ls) (ends_more lost id seats) where
        by_tests : (b c : Bool) → lost l.id ≡ c → (ended_if_lost lost rule (if b then loses rule l else l)) ≡ (if b || c then loses rule l else l)
        by_tests true true e = rw e (ap (λ (s : Seating). record { id = l.id; seating = s }) (twice l.seating))
        by_tests true false e = rw e refl
        by_tests false true e = rw e refl
        by_tests false false e = rw e refl

  -- nobody at all
  pub ends_nobody : (seats : List Listener) → map (ended_if_lost (is_among []) rule) seats ≡ seats
  ends_nobody [] = refl
  ends_nobody (l ∷ seats) = ap (λ ls. l ∷ ls) (ends_nobody seats)
