-- how far each has heard, after each change of the seats and of those who are attached
use Rattle.std.proofs.Common.{◌≡◌, Bool, true, false, ℕ, ◌==◌, Some, List, [], ◌∷◌, refl, ap, sym, ◌∙◌, arith}
use Rattle.radio_parts_table.proofs.Words.{if◌then◌else◌, unwrap_or, AllByRecursion, nat_cmp, match_ordering, Ordering, Less, Equal, Greater, eqb-true, nat_tests, sorted_head, sorted_tail, placed, Each, Rule, Listener}
use Rattle.radio_parts_table.proofs.Words.{Seat, Seating, Sits, Finished, without_listener, AreByNumber, with_place, advanced, heard_to, with_session_at, hears_session, in_session_at, with_ended, finished_if, ended_if}
use Rattle.radio_parts_table.proofs.Words.{lost_by, with_seat, seated, by_listener, seat_held, numbers_of, Heard, heard_seating, heard_by, heard, OthersStay, all_stay, others_heard}

-- a session begins: nobody has heard more
module _ (f : Heard) (mount : List ℕ) (session : ℕ) where
  given_so : (id : ℕ) (seating : Seating) → heard_seating f id (in_session_at mount session seating) ≡ in_session_at mount session (heard_seating f id seating)
  given_so id (Sits seat) = refl
  given_so id (Finished rule last) = refl

  pub given_heard : (seats : List Listener) → heard f (with_session_at seats mount session) ≡ with_session_at (heard f seats) mount session
  given_heard [] = refl
  given_heard (l ∷ seats) =
      ap (λ (seating : Seating). record { id = l.id; seating = seating } ∷ heard f (with_session_at seats mount session)) (given_so l.id l.seating)
      ∙ ap (λ ls. hears_session mount session (heard_by f l) ∷ ls) (given_heard seats)

-- those lose their seats of whom something holds, wherever they are in the stream
module _ (f : Heard) (p : Seat → Bool) (rule : Rule) (anywhere : (seat : Seat) (place : ℕ) → p (record seat { place = place }) ≡ p seat) where
  ended_at : (id : ℕ) (seat : Seat) (b c : Bool) → b ≡ c
      → heard_seating f id (if b then lost_by rule (Sits seat) else Sits seat)
      ≡ (if c then lost_by rule (heard_seating f id (Sits seat)) else heard_seating f id (Sits seat))
  ended_at id seat true true e = refl
  ended_at id seat false false e = refl
  ended_at id seat true false e = cc
  ended_at id seat false true e = cc

  ended_so : (id : ℕ) (seating : Seating) → heard_seating f id (ended_if p rule seating) ≡ ended_if p rule (heard_seating f id seating)
  ended_so id (Sits seat) = ended_at id seat (p seat) (p (record seat { place = unwrap_or (f seat.mount id) seat.place }))
      (sym (anywhere seat (unwrap_or (f seat.mount id) seat.place)))
  ended_so id (Finished other mount) = refl

  pub ended_by_heard : (seats : List Listener) → heard f (with_ended seats p rule) ≡ with_ended (heard f seats) p rule
  ended_by_heard [] = refl
  ended_by_heard (l ∷ seats) =
      ap (λ (seating : Seating). record { id = l.id; seating = seating } ∷ heard f (with_ended seats p rule)) (ended_so l.id l.seating)
      ∙ ap (λ ls. finished_if p rule (heard_by f l) ∷ ls) (ended_by_heard seats)

-- where two agree on all who sit, they show the same: so rows of those who sit no more may go
abbrev pub AgreeOnSitters : Heard → Heard → List Listener → Type 0
AgreeOnSitters f g seats = Each (λ (l : Listener). (seat : Seat) → seat_held l.seating ≡ Some seat → g seat.mount l.id ≡ f seat.mount l.id) seats

sitter_same : (f g : Heard) (id : ℕ) (seating : Seating) → ((seat : Seat) → seat_held seating ≡ Some seat → g seat.mount id ≡ f seat.mount id)
    → heard_seating g id seating ≡ heard_seating f id seating
sitter_same f g id (Sits seat) same = ap (λ found. Sits (record seat { place = unwrap_or found seat.place })) (same seat refl)
sitter_same f g id (Finished rule mount) same = refl

pub same_sitters : (f g : Heard) (seats : List Listener) → AgreeOnSitters f g seats → heard g seats ≡ heard f seats
same_sitters f g [] all = refl
same_sitters f g (l ∷ seats) all =
    ap (λ (seating : Seating). record { id = l.id; seating = seating } ∷ heard g seats) (sitter_same f g l.id l.seating all.0)
    ∙ ap (λ ls. heard_by f l ∷ ls) (same_sitters f g seats all.1)

-- one leaves
pub left_heard : (f : Heard) (seats : List Listener) (id : ℕ) → heard f (without_listener seats id) ≡ without_listener (heard f seats) id
left_heard f seats id = sym (others_heard f seats id)

-- one sits down, from this place on
module _ (f : Heard) (id : ℕ) (seat : Seat) where
  placed_by : (l : Listener) (seats : List Listener) (o : Ordering) → heard f (with_seat seats id seat) ≡ placed by_listener (heard_by f (seated id seat)) (heard f seats)
      → heard f (match_ordering o (seated id seat ∷ l ∷ seats) (seated id seat ∷ seats) (l ∷ with_seat seats id seat))
      ≡ match_ordering o (heard_by f (seated id seat) ∷ heard_by f l ∷ heard f seats) (heard_by f (seated id seat) ∷ heard f seats)
      (heard_by f l ∷ placed by_listener (heard_by f (seated id seat)) (heard f seats))
  placed_by l seats Less later = refl
  placed_by l seats Equal later = refl
  placed_by l seats Greater later = ap (λ ls. heard_by f l ∷ ls) later

  pub seated_heard : (seats : List Listener) → heard f (with_seat seats id seat) ≡ placed by_listener (heard_by f (seated id seat)) (heard f seats)
  seated_heard [] = refl
  seated_heard (l ∷ seats) = placed_by l seats (by_listener (seated id seat) l) (seated_heard seats)

-- one has heard more: the seats are the same, and it is attached there at another place
module _ (f g : Heard) (id : ℕ) (stay : OthersStay f g id) (place : ℕ) where
  his_place : (n : ℕ) → (n == id) ≡ true → (seating : Seating)
      → ((seat : Seat) → seat_held seating ≡ Some seat → g seat.mount id ≡ Some place) → heard_seating g n seating ≡ heard_to place (heard_seating f n seating)
  his_place n e (Sits seat) at =
      ap (λ (k : ℕ). Sits (record seat { place = unwrap_or (g seat.mount k) seat.place })) (eqb-true n id e)
      ∙ ap (λ found. Sits (record seat { place = unwrap_or found seat.place })) (at seat refl)
  his_place n e (Finished rule mount) at = refl

  above_apart : (n m : ℕ) → (n == id) ≡ true → nat_cmp n m ≡ Less → (id == m) ≡ false
  above_apart n m is less = grind (arith, nat_tests)

  each_apart : (n : ℕ) → (n == id) ≡ true → (seats : List Listener) → AllByRecursion (λ m. nat_cmp n m ≡ Less) (numbers_of seats)
      → Each (λ (l : Listener). (id == l.id) ≡ false) seats
  each_apart n is [] all = tt
  each_apart n is (l ∷ seats) all = (above_apart n l.id is all.0, each_apart n is seats all.1)

  flipped : (n : ℕ) → (n == id) ≡ false → (id == n) ≡ false
  flipped n e = grind (arith, nat_tests)

  others_place : (n : ℕ) → (id == n) ≡ false → (seating : Seating) → heard_seating g n seating ≡ heard_seating f n seating
  others_place n apart (Sits seat) = ap (λ found. Sits (record seat { place = unwrap_or found seat.place })) (stay seat.mount n apart)
  others_place n apart (Finished rule mount) = refl

  abbrev pub IsThere : Listener → Type 0
  IsThere l = (l.id == id) ≡ true → (seat : Seat) → seat_held l.seating ≡ Some seat → g seat.mount id ≡ Some place

  further_at : (l : Listener) (seats : List Listener) (b : Bool) → (l.id == id) ≡ b → IsThere l
      → AllByRecursion (λ m. nat_cmp l.id m ≡ Less) (numbers_of seats) → heard g seats ≡ with_place (heard f seats) id place
      → heard g (l ∷ seats) ≡ (if b then advanced place (heard_by f l) ∷ heard f seats else heard_by f l ∷ with_place (heard f seats) id place)
  further_at l seats true e at all later =
      ap (λ (seating : Seating). record { id = l.id; seating = seating } ∷ heard g seats) (his_place l.id e l.seating (at e))
      ∙ ap (λ ls. advanced place (heard_by f l) ∷ ls) (all_stay f g id stay seats (each_apart l.id e seats all))
  further_at l seats false e at all later =
      ap (λ (seating : Seating). record { id = l.id; seating = seating } ∷ heard g seats) (others_place l.id (flipped l.id e) l.seating)
      ∙ ap (λ ls. heard_by f l ∷ ls) later

  pub further_heard : (seats : List Listener) → Each IsThere seats → AreByNumber seats → heard g seats ≡ with_place (heard f seats) id place
  further_heard [] at rising = refl
  further_heard (l ∷ seats) at rising =
      further_at l seats (l.id == id) refl at.0 (sorted_head nat_cmp l.id (numbers_of seats) rising)
      (further_heard seats at.1 (sorted_tail nat_cmp l.id (numbers_of seats) rising))
