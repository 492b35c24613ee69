-- what the listeners show after each change: the changed table, with the places of the attachments
use Rattle.std.proofs.Common.{◌≡◌, inl, inr, Bool, true, false, ℕ, ◌==◌, ◌-◌, ◌<◌, Option, Some, None, List, [], ◌∷◌, not, refl, ap, sym, subst, ◌∙◌, arith}
use Rattle.radio_parts_table.proofs.Words.{is_some, nat_lt, if◌then◌else◌, unwrap_or, MatchOption, AllByRecursion, option_map, option_map_or, nat_cmp, match_ordering, bytes_eq, Ordering, Less, Equal, Greater, nat_tests}
use Rattle.radio_parts_table.proofs.Words.{sorted_head, sorted_tail, update_first, Each, Each_each, find_here, find_later, by_name, Rule, Guest, Listener, Seat, Seating, Sits, Finished, passes_in, passes_at, how_many}
use Rattle.radio_parts_table.proofs.Words.{is_listener, listener_of, seat_held, seat_in, seat_of, seated, sits_at, holds_of, AreByNumber, with_seat, with_place, without_listener, with_ended, with_end, advanced, loses}
use Rattle.radio_parts_table.proofs.Words.{map_counted, listener_seated, lags_behind, numbers_of, Heard, heard_seating, heard_by, heard, OthersStay, IsAt, Fits, GoesOver, all_stay, others_heard, each_apart}
use Rattle.radio_parts_table.proofs.Words.{seating_stays, Session, Listening}
use Rattle.radio_parts_table.proofs.FitsChanges.{after_test, sitters_agree, each_found, all_fit, after_losses}
use Rattle.radio_parts_table.proofs.HeardChanges.{further_heard, ended_by_heard, same_sitters}
use Rattle.radio_parts_table.proofs.HeardReads.{heard_seat, seat_heard}
use Rattle.radio_parts_table.proofs.LossLemmas.{losses_heard}

-- the same in each part
pub same_listening : {names more : List (List ℕ)} {seats others : List Listener} {live later : List Session} → names ≡ more → seats ≡ others → live ≡ later
    → ◌≡◌ {A = Listening} (record { prepared = names; seats = seats; live = live }) (record { prepared = more; seats = others; live = later })
same_listening {more = more} {seats = seats} {others = others} {live = live} e f g =
    ap (λ n. with_all n seats live) e ∙ ap (λ s. with_all more s live) f ∙ ap (with_all more others) g where
      with_all : List (List ℕ) → List Listener → List Session → Listening
      with_all n s l = record { prepared = n; seats = s; live = l }

-- the same, where both say the same of all
pub same_heard : (f g : Heard) → ((m : List ℕ) (n : ℕ) → g m n ≡ f m n) → (seats : List Listener) → heard g seats ≡ heard f seats
same_heard f g same [] = refl
same_heard f g same (l ∷ seats) =
    ap (λ (seating : Seating). record { id = l.id; seating = seating } ∷ heard g seats) (by_seating l.seating) ∙ ap (λ ls. heard_by f l ∷ ls) (same_heard f g same seats)
  where
    by_seating : (seating : Seating) → heard_seating g l.id seating ≡ heard_seating f l.id seating
    by_seating (Sits seat) = ap (λ found. Sits (record seat { place = unwrap_or found seat.place })) (same seat.mount l.id)
    by_seating (Finished rule mount) = refl

-- one leaves
other_at : (id : ℕ) (l : Listener) (seats : List Listener) (b : Bool) → (l.id == id) ≡ b → Each (λ (x : Listener). (id == x.id) ≡ false) (without_listener seats id)
    → Each (λ (x : Listener). (id == x.id) ≡ false) (if not b then l ∷ without_listener seats id else without_listener seats id)
other_at id l seats true e later = later
other_at id l seats false e later = (flipped, later) where
  flipped : (id == l.id) ≡ false
  flipped = grind (arith, nat_tests, e)

others_only : (id : ℕ) (seats : List Listener) → Each (λ (x : Listener). (id == x.id) ≡ false) (without_listener seats id)
others_only id [] = tt
others_only id (l ∷ seats) = other_at id l seats (l.id == id) refl (others_only id seats)

pub has_left : (f g : Heard) (id : ℕ) → OthersStay f g id → (seats : List Listener) → heard g (without_listener seats id) ≡ without_listener (heard f seats) id
has_left f g id stay seats = all_stay f g id stay (without_listener seats id) (others_only id seats) ∙ sym (others_heard f seats id)

-- one sits down, and is attached there at its place
module _ (f g : Heard) (id : ℕ) (stay : OthersStay f g id) (seat : Seat) (there : g seat.mount id ≡ Some seat.place) where
  shown : heard_by g (seated id seat) ≡ seated id seat
  shown = ap (λ found. record { id = id; seating = Sits (record seat { place = unwrap_or found seat.place }) }) there

  above_apart : (n m : ℕ) → nat_cmp id n ≡ Less → nat_cmp n m ≡ Less → (id == m) ≡ false
  above_apart n m less more = grind (arith, nat_tests)

  one_apart : (n : ℕ) → nat_cmp id n ≡ Less → (id == n) ≡ false
  one_apart n less = grind (arith, nat_tests)

  below_apart : (n : ℕ) → nat_cmp id n ≡ Greater → (id == n) ≡ false
  below_apart n more = grind (arith, nat_tests)

  is_same : (n : ℕ) → nat_cmp id n ≡ Equal → (n == id) ≡ true
  is_same n equal = grind (arith, nat_tests)

  all_apart : (n : ℕ) → nat_cmp id n ≡ Less → (seats : List Listener) → AllByRecursion (λ m. nat_cmp n m ≡ Less) (numbers_of seats)
      → Each (λ (l : Listener). (id == l.id) ≡ false) seats
  all_apart n less [] all = tt
  all_apart n less (l ∷ seats) all = (above_apart n l.id less all.0, all_apart n less seats all.1)

  sat_at : (l : Listener) (seats : List Listener) (o : Ordering) → nat_cmp id l.id ≡ o → AllByRecursion (λ m. nat_cmp l.id m ≡ Less) (numbers_of seats)
      → heard g (with_seat seats id seat) ≡ with_seat (heard f seats) id seat
      → heard g (match_ordering o (seated id seat ∷ l ∷ seats) (seated id seat ∷ seats) (l ∷ with_seat seats id seat))
      ≡ match_ordering o (seated id seat ∷ heard_by f l ∷ heard f seats) (seated id seat ∷ heard f seats) (heard_by f l ∷ with_seat (heard f seats) id seat)
  sat_at l seats Less o all later =
      ap (λ (x : Listener). x ∷ heard g (l ∷ seats)) shown
      ∙ ap (λ ls. seated id seat ∷ ls) (all_stay f g id stay (l ∷ seats) (one_apart l.id o, all_apart l.id o seats all))
  sat_at l seats Equal o all later =
      ap (λ (x : Listener). x ∷ heard g seats) shown
      ∙ ap (λ ls. seated id seat ∷ ls) (all_stay f g id stay seats (each_apart f g id stay l.id (is_same l.id o) seats all))
  sat_at l seats Greater o all later =
      ap (λ (seating : Seating). record { id = l.id; seating = seating } ∷ heard g (with_seat seats id seat)) (seating_stays f g id stay l.id (below_apart l.id o) l.seating)
      ∙ ap (λ ls. heard_by f l ∷ ls) later

  pub has_sat : (seats : List Listener) → AreByNumber seats → heard g (with_seat seats id seat) ≡ with_seat (heard f seats) id seat
  has_sat [] rising = ap (λ (x : Listener). x ∷ []) shown
  has_sat (l ∷ seats) rising =
      sat_at l seats (nat_cmp id l.id) refl (sorted_head nat_cmp l.id (numbers_of seats) rising)
      (has_sat seats (sorted_tail nat_cmp l.id (numbers_of seats) rising))

-- what holds of the one of a number holds of each of that number
above_not : (id : ℕ) (x : Listener) → (id == x.id) ≡ false → (x.id == id) ≡ true → ⊥
above_not id x e f = grind (arith, nat_tests, e, f)

module _ (P : Listener → Type 0) (id : ℕ) where
  nobody_else : (seats : List Listener) → Each (λ (x : Listener). (id == x.id) ≡ false) seats → Each (λ (x : Listener). (x.id == id) ≡ true → P x) seats
  nobody_else [] all = tt
  nobody_else (x ∷ seats) all = (λ e. absurd (above_not id x all.0 e), nobody_else seats all.1)

  of_his_at : (f : Heard) (l x : Listener) (seats : List Listener) (b : Bool) → (x.id == id) ≡ b → AllByRecursion (λ m. nat_cmp x.id m ≡ Less) (numbers_of seats)
      → (listener_of seats id ≡ Some l → Each (λ (y : Listener). (y.id == id) ≡ true → P y) seats)
      → listener_of (x ∷ seats) id ≡ Some l → P l → Each (λ (y : Listener). (y.id == id) ≡ true → P y) (x ∷ seats)
  of_his_at f l x seats true e all later found p =
      let here : listener_of (x ∷ seats) id ≡ Some x = find_here (is_listener id) x seats e in
      let same : l ≡ x = cc in
      (λ his. subst P same p, nobody_else seats (each_apart f f id (λ m n apart. refl) x.id e seats all))
  of_his_at f l x seats false e all later found p =
      (λ his. absurd (both e his), later (sym (find_later (is_listener id) x seats e) ∙ found)) where
        both : (x.id == id) ≡ false → (x.id == id) ≡ true → ⊥
        both no_ yes_ = let contra : true ≡ false = sym yes_ ∙ no_ in cc

  pub of_his : (f : Heard) (l : Listener) (seats : List Listener) → AreByNumber seats → listener_of seats id ≡ Some l → P l
      → Each (λ (y : Listener). (y.id == id) ≡ true → P y) seats
  of_his f l [] rising found p = tt
  of_his f l (x ∷ seats) rising found p =
      of_his_at f l x seats (x.id == id) refl (sorted_head nat_cmp x.id (numbers_of seats) rising)
      (λ e. of_his f l seats (sorted_tail nat_cmp x.id (numbers_of seats) rising) e p) found p

-- one has heard more where it sits
pub has_heard : (f g : Heard) (id place : ℕ) (seat : Seat) (seats : List Listener) → AreByNumber seats → Fits f seats → seat_of seats id ≡ Some seat
    → OthersStay f g id → GoesOver f g id seat.mount seat.mount → IsAt (g seat.mount id) place → heard g seats ≡ with_place (heard f seats) id place
has_heard f g id place seat seats rising fits has stay over there =
    let him = listener_seated seats id seat has in
    further_heard f g id stay place seats (of_his Place id f him.0 seats rising him.1 (λ other held. is_there other (sym him.2 ∙ held))) rising where
      Place : Listener → Type 0
      Place x = (other : Seat) → seat_held x.seating ≡ Some other → g other.mount id ≡ Some place

      at_place : (found : Option ℕ) → IsAt found place → is_some found ≡ true → found ≡ Some place
      at_place None at some = cc
      at_place (Some other) (inl none) some = cc
      at_place (Some other) (inr same) some = same

      sits : sits_at seats id seat.mount ≡ true
      sits =
          ap (λ (found : Option Seat). option_map_or (λ (s : Seat). bytes_eq s.mount seat.mount) found false) has
          ∙ (Rattle.std.proofs.lemmas.Slice.Eq.bytes_eq-Decides seat.mount seat.mount).1 refl

      is_there : (other : Seat) → Some seat ≡ Some other → g other.mount id ≡ Some place
      is_there other e =
          let same : seat ≡ other = cc in
          subst (λ (s : Seat). g s.mount id ≡ Some place) same (at_place (g seat.mount id) there (over.here (fits seat.mount id ∙ sits)))

-- one that sits at the mount has a seat there
pub its_seat : (f : Heard) (id : ℕ) (mount : List ℕ) (seats : List Listener) → sits_at (heard f seats) id mount ≡ true
    → (seat : Seat) × (seat_of seats id ≡ Some seat) × (seat.mount ≡ mount)
its_seat f id mount seats sits =
    by_seat (seat_of seats id) refl
    (sym (ap (λ (found : Option Seat). option_map_or (λ (s : Seat). bytes_eq s.mount mount) found false) (seat_heard f seats id)) ∙ sits) where
      by_seat : (found : Option Seat) → seat_of seats id ≡ found
          → option_map_or (λ (s : Seat). bytes_eq s.mount mount) (option_map (heard_seat f id) found) false ≡ true
          → (seat : Seat) × (seat_of seats id ≡ Some seat) × (seat.mount ≡ mount)
      by_seat None e there = cc
      by_seat (Some seat) e there = (seat, e, (Rattle.std.proofs.lemmas.Slice.Eq.bytes_eq-Decides seat.mount mount).0 there)

-- of one who has no seat nothing changes
module _ (change : Listener → Listener) (same : (l : Listener) → seat_held l.seating ≡ None → change l ≡ l) (id : ℕ) where
  pub seatless : (seats : List Listener) → seat_of seats id ≡ None → update_first (is_listener id) change seats ≡ seats
  seatless [] none = refl
  seatless (l ∷ seats) none = by_test (l.id == id) refl (λ later. seatless seats later) where
    by_test : (b : Bool) → (l.id == id) ≡ b → (seat_of seats id ≡ None → update_first (is_listener id) change seats ≡ seats) → (if b then change l ∷ seats else l ∷ update_first (is_listener id) change seats) ≡ l ∷ seats
    by_test true e later =
        let held : seat_held l.seating ≡ None = sym (ap seat_in (find_here (is_listener id) l seats e)) ∙ none in
        ap (λ (x : Listener). x ∷ seats) (same l held)
    by_test false e later = ap (λ ls. l ∷ ls) (later (sym (ap seat_in (find_later (is_listener id) l seats e)) ∙ none))

pub no_place : (f : Heard) (id place : ℕ) (seats : List Listener) → seat_of seats id ≡ None → with_place (heard f seats) id place ≡ heard f seats
no_place f id place seats none =
    seatless (advanced place) (λ l held. same l.id l.seating held) id (heard f seats) (seat_heard f seats id ∙ ap (option_map (heard_seat f id)) none) where
      same : (n : ℕ) (seating : Seating) → seat_held seating ≡ None
          → advanced place (record { id = n; seating = seating }) ≡ record { id = n; seating = seating }
      same n (Sits seat) held = cc
      same n (Finished rule mount) held = refl

pub no_end : (f : Heard) (id : ℕ) (rule : Rule) (seats : List Listener) → seat_of seats id ≡ None → with_end (heard f seats) id rule ≡ heard f seats
no_end f id rule seats none =
    seatless (loses rule) (λ l held. same l.id l.seating held) id (heard f seats) (seat_heard f seats id ∙ ap (option_map (heard_seat f id)) none) where
      same : (n : ℕ) (seating : Seating) → seat_held seating ≡ None
          → loses rule (record { id = n; seating = seating }) ≡ record { id = n; seating = seating }
      same n (Sits seat) held = cc
      same n (Finished other mount) held = refl

-- a test that does not look at the place
module _ (f : Heard) (P : Seat → Bool) (anywhere : (seat : Seat) (place : ℕ) → P (record seat { place = place }) ≡ P seat) where
  holds_so : (n : ℕ) (seating : Seating) → holds_of P (heard_seating f n seating) ≡ holds_of P seating
  holds_so n (Sits seat) = anywhere seat (unwrap_or (f seat.mount n) seat.place)
  holds_so n (Finished rule mount) = refl

  pub how_many_heard : (seats : List Listener) → how_many P (heard f seats) ≡ how_many P seats
  how_many_heard seats =
      map_counted (heard_by f) (λ (l : Listener). holds_of P l.seating) (λ (l : Listener). holds_of P l.seating) (λ l. holds_so l.id l.seating) seats

-- those have lost their seats who pass it
pub have_tested : (f g : Heard) (mount : List ℕ) (p : Guest → Bool) (rule : Rule) (seats : List Listener)
    → AreByNumber (after_test f g mount p rule seats)
    → ((n : ℕ) → g mount n ≡ (if sits_at (after_test f g mount p rule seats) n mount then f mount n else None))
    → ((m : List ℕ) (n : ℕ) → bytes_eq mount m ≡ false → g m n ≡ f m n)
    → heard g (after_test f g mount p rule seats) ≡ with_ended (heard f seats) (passes_at mount p) rule
have_tested f g mount p rule seats rising there elsewhere =
    same_sitters f g (after_test f g mount p rule seats)
    (Each_each (λ (x : Listener). listener_of (after_test f g mount p rule seats) x.id ≡ Some x)
    (λ (l : Listener). (seat : Seat) → seat_held l.seating ≡ Some seat → g seat.mount l.id ≡ f seat.mount l.id)
    (λ l found seat held. sitters_agree f g mount p rule seats there elsewhere l.id seat (ap seat_in found ∙ held))
    (after_test f g mount p rule seats) (each_found (after_test f g mount p rule seats) rising))
    ∙ ended_by_heard f (passes_at mount p) rule (λ seat place. refl) seats

-- those have lost theirs who lag
pub have_lagged : (f g : Heard) (mount : List ℕ) (end queue : ℕ) (lost : ℕ → Bool) (rule : Rule) (seats : List Listener) → AreByNumber seats → Fits f seats
    → ((n : ℕ) → lost n ≡ option_map_or (λ place. nat_lt queue (end - place)) (f mount n) false) → ((n : ℕ) → g mount n ≡ (if lost n then None else f mount n))
    → ((m : List ℕ) (n : ℕ) → bytes_eq mount m ≡ false → g m n ≡ f m n)
    → heard g (after_losses f g mount lost rule seats) ≡ with_ended (heard f seats) (lags_behind mount end queue) rule
have_lagged f g mount end queue lost rule seats rising fits is_lost there elsewhere =
    losses_heard f g mount (λ place. nat_lt queue (end - place)) rule lost is_lost others seats (all_fit f seats fits rising) where
      others : (k : List ℕ) (n : ℕ) → lost n ≡ false → g k n ≡ f k n
      others k n e = by_name mount k
          (λ is. subst (λ (m : List ℕ). g m n ≡ f m n) is (there n ∙ rw e refl))
          (λ apart. elsewhere k n apart)

-- the mount of the first of whom it holds
pub some_heard : (f : Heard) (p : Guest → Bool) (seats : List Listener)
    (found : Option (List ℕ)) → MatchOption found (how_many (passes_in p) seats ≡ 0) (λ mount. 0 < how_many (passes_at mount p) seats)
    → MatchOption found (how_many (passes_in p) (heard f seats) ≡ 0) (λ mount. 0 < how_many (passes_at mount p) (heard f seats))
some_heard f p seats None none = how_many_heard f (passes_in p) (λ seat place. refl) seats ∙ none
some_heard f p seats (Some mount) some =
    subst (λ n. 0 < n) (sym (how_many_heard f (passes_at mount p) (λ seat place. refl) seats)) some
