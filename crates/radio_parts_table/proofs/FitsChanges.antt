-- attached to each mount is who sits there, after each change of the seats and of those who are attached
use Rattle.std.proofs.Common.{◌≡◌, ◌⊎◌, inl, inr, Bool, true, false, ℕ, ◌==◌, Option, Some, None, List, [], ◌∷◌, refl, ap, sym, subst, ◌∙◌, arith}
use Rattle.radio_parts_table.proofs.Words.{map, is_some, ◌&&◌, if◌then◌else◌, AllByRecursion, option_map, option_map_or, nat_cmp, bytes_eq, Less, eqb-true, nat_tests, sorted_head, sorted_tail, bytes_eq-Decides, Each}
use Rattle.radio_parts_table.proofs.Words.{find_here, find_later, find_mapped, found_passes, by_number, by_name, Rule, Guest, Listener, Seat, Seating, Sits, Finished, passes_at, is_listener, listener_of, seat_held}
use Rattle.radio_parts_table.proofs.Words.{seat_in, seat_of, sits_at, last_mount, last_mount_of, AreByNumber, with_seat, with_session_at, without_listener, with_ended, loses, lost_by, same_number, beside_seated}
use Rattle.radio_parts_table.proofs.Words.{has_sat_down, beside_left, is_no_listener, numbers_of, Heard, OthersStay, Fits, GoesOver, GoesOff, sits_last, Attachment, ended_if_lost}
use Rattle.radio_seats_rows.proofs.EndLaws.{same_or_loses, had_seat, LosesSeat}
use Rattle.radio_seats_rows.proofs.GivenLaws.{seat_hearing, seat_of_hearing}
use Rattle.radio_parts_table.proofs.LossLemmas.{FitsHim}

abbrev at_mount : List ℕ → Option Seat → Bool
at_mount m found = option_map_or (λ (seat : Seat). bytes_eq seat.mount m) found false

here : (m : List ℕ) → bytes_eq m m ≡ true
here m = (bytes_eq-Decides m m).1 refl

not_some : (found : Option ℕ) → is_some found ≡ false → found ≡ None
not_some None e = refl
not_some (Some place) e = cc

-- nothing has changed of it
pub fits_alike : (f g : Heard) (seats later : List Listener) → ((m : List ℕ) (n : ℕ) → g m n ≡ f m n) → ((n : ℕ) (m : List ℕ) → sits_at later n m ≡ sits_at seats n m)
    → Fits f seats → Fits g later
fits_alike f g seats later same alike fits m n = ap (λ (found : Option ℕ). is_some found) (same m n) ∙ fits m n ∙ sym (alike n m)

-- a session has begun
pub given_sits : (mount : List ℕ) (session : ℕ) (seats : List Listener) (n : ℕ) (m : List ℕ) → sits_at (with_session_at seats mount session) n m ≡ sits_at seats n m
given_sits mount session seats n m = ap (at_mount m) (seat_of_hearing mount session seats n) ∙ by_seat (seat_of seats n) where
  by_seat : (found : Option Seat) → at_mount m (option_map (seat_hearing mount session) found) ≡ at_mount m found
  by_seat None = refl
  by_seat (Some seat) = refl

-- one was detached from where it sat
module _ (f g : Heard) (id : ℕ) (seats : List Listener) (fits : Fits f seats) where
  sits_elsewhere : (from : List ℕ) → last_mount_of seats id ≡ Some from → (m : List ℕ) → bytes_eq from m ≡ false → sits_at seats id m ≡ false
  sits_elsewhere from last m apart = by_seat (seat_of seats id) refl where
    by_seat : (found : Option Seat) → seat_of seats id ≡ found → at_mount m found ≡ false
    by_seat None e = refl
    by_seat (Some seat) e =
        let its : Some seat.mount ≡ Some from = sym (sits_last seats id seat e) ∙ last in
        let is : seat.mount ≡ from = cc in
        ap (λ k. bytes_eq k m) is ∙ apart

  no_listener : last_mount_of seats id ≡ None → (m : List ℕ) → sits_at seats id m ≡ false
  no_listener last m = by_found (listener_of seats id) refl where
    by_found : (found : Option Listener) → listener_of seats id ≡ found → sits_at seats id m ≡ false
    by_found None e = ap (λ (x : Option Listener). at_mount m (seat_in x)) e
    by_found (Some listener) e =
        let some : last_mount_of seats id ≡ Some (last_mount listener.seating) = ap (option_map (λ (l : Listener). last_mount l.seating)) e in cc

  pub is_detached : ((from : List ℕ) → last_mount_of seats id ≡ Some from → GoesOff f g id from) → (last_mount_of seats id ≡ None → (m : List ℕ) → g m id ≡ f m id)
      → (m : List ℕ) → g m id ≡ None
  is_detached off none m = by_last (last_mount_of seats id) refl where
    by_last : (last : Option (List ℕ)) → last_mount_of seats id ≡ last → g m id ≡ None
    by_last None e = none e m ∙ not_some (f m id) (fits m id ∙ no_listener e m)
    by_last (Some from) e = by_name from m
        (λ is. subst (λ (k : List ℕ). g k id ≡ None) is (off from e).gone)
        (λ apart. (off from e).elsewhere m apart ∙ not_some (f m id) (fits m id ∙ sits_elsewhere from e m apart))

-- one has left
pub left_fits : (f g : Heard) (id : ℕ) (seats : List Listener) → Fits f seats → OthersStay f g id → ((m : List ℕ) → g m id ≡ None)
    → Fits g (without_listener seats id)
left_fits f g id seats fits stay off m n = by_number id n
    (λ is. subst (λ (k : ℕ). is_some (g m k) ≡ sits_at (without_listener seats id) k m) is
    (ap (λ (found : Option ℕ). is_some found) (off m) ∙ sym (ap (λ (x : Option Listener). at_mount m (seat_in x)) (is_no_listener seats id))))
    (λ apart. ap (λ (found : Option ℕ). is_some found) (stay m n apart) ∙ fits m n
    ∙ sym (ap (λ (x : Option Listener). at_mount m (seat_in x)) (beside_left seats id n apart)))

-- one has sat down
pub seated_fits : (f g : Heard) (id place : ℕ) (seat : Seat) (seats : List Listener) → Fits f seats → OthersStay f g id → g seat.mount id ≡ Some place
    → ((m : List ℕ) → bytes_eq seat.mount m ≡ false → g m id ≡ None) → Fits g (with_seat seats id seat)
seated_fits f g id place seat seats fits stay there off m n = by_number id n
    (λ is. subst (λ (k : ℕ). is_some (g m k) ≡ sits_at (with_seat seats id seat) k m) is
    (at_its m ∙ sym (ap (λ (x : Option Listener). at_mount m (seat_in x)) (has_sat_down seats id seat (same_number id)))))
    (λ apart. ap (λ (found : Option ℕ). is_some found) (stay m n apart) ∙ fits m n
    ∙ sym (ap (λ (x : Option Listener). at_mount m (seat_in x)) (beside_seated seats id n apart seat))) where
      at_its : (k : List ℕ) → is_some (g k id) ≡ bytes_eq seat.mount k
      at_its k = by_test (bytes_eq seat.mount k) refl where
        by_test : (b : Bool) → bytes_eq seat.mount k ≡ b → is_some (g k id) ≡ b
        by_test true e =
            let is : seat.mount ≡ k = (bytes_eq-Decides seat.mount k).0 e in
            ap (λ (x : List ℕ). is_some (g x id)) (sym is) ∙ ap (λ (found : Option ℕ). is_some found) there
        by_test false e = ap (λ (found : Option ℕ). is_some found) (off k e)

-- one has heard more where it sits
pub further_fits : (f g : Heard) (id : ℕ) (seat : Seat) (seats : List Listener) → Fits f seats → seat_of seats id ≡ Some seat → OthersStay f g id
    → GoesOver f g id seat.mount seat.mount → Fits g seats
further_fits f g id seat seats fits has stay over m n = by_number id n
    (λ is. subst (λ (k : ℕ). is_some (g m k) ≡ sits_at seats k m) is (by_name seat.mount m
    (λ at. subst (λ (k : List ℕ). is_some (g k id) ≡ sits_at seats id k) at (over.here (fits seat.mount id ∙ sits) ∙ sym sits))
    (λ apart. ap (λ (found : Option ℕ). is_some found) (over.elsewhere m apart apart) ∙ fits m id)))
    (λ apart. ap (λ (found : Option ℕ). is_some found) (stay m n apart) ∙ fits m n) where
      sits : sits_at seats id seat.mount ≡ true
      sits = ap (at_mount seat.mount) has ∙ here seat.mount

-- those have lost their seats at a mount who pass a test, and whoever does not sit there was detached
module _ (f g : Heard) (mount : List ℕ) (p : Guest → Bool) (rule : Rule) (seats : List Listener) where
  abbrev pub after_test : List Listener
  after_test = with_ended seats (passes_at mount p) rule

  first_true : (b c : Bool) → (b && c) ≡ true → b ≡ true
  first_true true c e = refl
  first_true false c e = cc

  still_sits : (n : ℕ) → sits_at after_test n mount ≡ true → sits_at seats n mount ≡ true
  still_sits n sits = by_seat (seat_of after_test n) refl sits where
    by_seat : (found : Option Seat) → seat_of after_test n ≡ found → at_mount mount found ≡ true → sits_at seats n mount ≡ true
    by_seat None e h = cc
    by_seat (Some seat) e h = ap (at_mount mount) (had_seat (passes_at mount p) rule seats n seat e) ∙ h

  sits_beside : (m : List ℕ) → bytes_eq mount m ≡ false → (n : ℕ) → sits_at after_test n m ≡ sits_at seats n m
  sits_beside m apart n = by_loss (same_or_loses (passes_at mount p) rule seats n) where
    by_loss : (listener_of after_test n ≡ listener_of seats n) ⊎ LosesSeat (passes_at mount p) rule (listener_of seats n) (listener_of after_test n)
        → sits_at after_test n m ≡ sits_at seats n m
    by_loss (inl same) = ap (λ (x : Option Listener). at_mount m (seat_in x)) same
    by_loss (inr lost) =
        let is : lost.seat.mount ≡ mount = (bytes_eq-Decides lost.seat.mount mount).0 (first_true _ _ lost.holds) in
        ap (λ (x : Option Listener). at_mount m (seat_in x)) lost.finished
        ∙ sym (ap (at_mount m) lost.had_a_seat ∙ ap (λ k. bytes_eq k m) is ∙ apart)

  module _ (there : (n : ℕ) → g mount n ≡ (if sits_at after_test n mount then f mount n else None)) (elsewhere : (m : List ℕ) (n : ℕ) → bytes_eq mount m ≡ false → g m n ≡ f m n) where
    pub tested_fits : Fits f seats → Fits g after_test
    tested_fits fits m n = by_name mount m
        (λ is. subst (λ (k : List ℕ). is_some (g k n) ≡ sits_at after_test n k) is
        (ap (λ (found : Option ℕ). is_some found) (there n) ∙ by_sitting (sits_at after_test n mount) refl))
        (λ apart. ap (λ (found : Option ℕ). is_some found) (elsewhere m n apart) ∙ fits m n ∙ sym (sits_beside m apart n)) where
          by_sitting : (b : Bool) → sits_at after_test n mount ≡ b → is_some (if b then f mount n else None) ≡ b
          by_sitting true e = fits mount n ∙ still_sits n e
          by_sitting false e = refl

    -- so of whom still sits nothing has changed
    pub sitters_agree : (n : ℕ) (seat : Seat) → seat_of after_test n ≡ Some seat → g seat.mount n ≡ f seat.mount n
    sitters_agree n seat has = by_name mount seat.mount
        (λ is.
        let sits : sits_at after_test n mount ≡ true = ap (at_mount mount) has ∙ ap (λ k. bytes_eq seat.mount k) is ∙ here seat.mount in
        subst (λ (k : List ℕ). g k n ≡ f k n) is (there n ∙ rw sits refl))
        (λ apart. elsewhere seat.mount n apart)

-- each listener is the one that is found by its number
kept_found : (l : Listener) (seats rest : List Listener) → AllByRecursion (λ m. nat_cmp l.id m ≡ Less) (numbers_of rest)
    → Each (λ (x : Listener). listener_of seats x.id ≡ Some x) rest → Each (λ (x : Listener). listener_of (l ∷ seats) x.id ≡ Some x) rest
kept_found l seats [] below all = tt
kept_found l seats (x ∷ rest) below all = (find_later (is_listener x.id) l seats (apart below.0) ∙ all.0, kept_found l seats rest below.1 all.1) where
  apart : nat_cmp l.id x.id ≡ Less → (l.id == x.id) ≡ false
  apart less = grind (arith, nat_tests)

pub each_found : (seats : List Listener) → AreByNumber seats → Each (λ (x : Listener). listener_of seats x.id ≡ Some x) seats
each_found [] rising = tt
each_found (l ∷ seats) rising = (
  find_here (is_listener l.id) l seats (same_number l.id),
  kept_found l seats seats (sorted_head nat_cmp l.id (numbers_of seats) rising) (each_found seats (sorted_tail nat_cmp l.id (numbers_of seats) rising)),
)

each_fits : (f : Heard) (seats rest : List Listener) → Fits f seats → Each (λ (x : Listener). listener_of seats x.id ≡ Some x) rest → Each (FitsHim f) rest
each_fits f seats [] fits all = tt
each_fits f seats (l ∷ rest) fits all = (
  λ m. fits m l.id ∙ ap (λ (x : Option Listener). at_mount m (seat_in x)) all.0,
  each_fits f seats rest fits all.1,
)

pub all_fit : (f : Heard) (seats : List Listener) → Fits f seats → AreByNumber seats → Each (FitsHim f) seats
all_fit f seats fits rising = each_fits f seats seats fits (each_found seats rising)

-- those have lost their seats who lag at a mount, and were taken out there
module _ (f g : Heard) (mount : List ℕ) (lost : ℕ → Bool) (rule : Rule) (seats : List Listener) where
  abbrev pub after_losses : List Listener
  after_losses = map (ended_if_lost lost rule) seats

  abbrev no_seat_at_all : Option Seat
  no_seat_at_all = None

  ended_id : (x : Listener) (n : ℕ) → is_listener n (ended_if_lost lost rule x) ≡ is_listener n x
  ended_id x n = by_loss (lost x.id) where
    by_loss : (b : Bool) → is_listener n (if b then loses rule x else x) ≡ is_listener n x
    by_loss true = refl
    by_loss false = refl

  pub seat_left : (n : ℕ) → seat_of after_losses n ≡ (if lost n then None else seat_of seats n)
  seat_left n = ap seat_in (find_mapped (is_listener n) (ended_if_lost lost rule) (λ x. ended_id x n) seats) ∙ by_found (listener_of seats n) refl where
    no_seat : (seating : Seating) → seat_held (lost_by rule seating) ≡ None
    no_seat (Sits seat) = refl
    no_seat (Finished other last) = refl

    by_loss : (x : Listener) (b : Bool) → seat_in (Some (if b then loses rule x else x)) ≡ (if b then None else seat_held x.seating)
    by_loss x true = no_seat x.seating
    by_loss x false = refl

    none_if : (b : Bool) → no_seat_at_all ≡ (if b then no_seat_at_all else no_seat_at_all)
    none_if true = refl
    none_if false = refl

    by_found : (found : Option Listener) → listener_of seats n ≡ found → seat_in (option_map (ended_if_lost lost rule) found) ≡ (if lost n then None else seat_in found)
    by_found None e = none_if (lost n)
    by_found (Some x) e =
        by_loss x (lost x.id) ∙ ap (λ k. if lost k then None else seat_held x.seating) (eqb-true x.id n (found_passes (is_listener n) seats x e))

  pub lost_fits : (q : ℕ → Bool) → ((n : ℕ) → lost n ≡ option_map_or q (f mount n) false) → ((n : ℕ) → g mount n ≡ (if lost n then None else f mount n))
      → ((m : List ℕ) (n : ℕ) → bytes_eq mount m ≡ false → g m n ≡ f m n) → Fits f seats → Fits g after_losses
  lost_fits q is_lost there elsewhere fits m n = by_name mount m
      (λ is. subst (λ (k : List ℕ). is_some (g k n) ≡ sits_at after_losses n k) is
      (ap (λ (found : Option ℕ). is_some found) (there n) ∙ at_loss (lost n) ∙ sym (ap (at_mount mount) (seat_left n))))
      (λ apart. ap (λ (found : Option ℕ). is_some found) (elsewhere m n apart) ∙ beside apart (lost n) refl ∙ sym (ap (at_mount m) (seat_left n))) where
        at_loss : (b : Bool) → is_some (if b then None else f mount n) ≡ at_mount mount (if b then None else seat_of seats n)
        at_loss true = refl
        at_loss false = fits mount n

        was_there : lost n ≡ true → is_some (f mount n) ≡ true
        was_there e = by_place (f mount n) (sym (is_lost n) ∙ e) where
          by_place : (found : Option ℕ) → option_map_or q found false ≡ true → is_some found ≡ true
          by_place None h = cc
          by_place (Some place) h = refl

        beside : bytes_eq mount m ≡ false → (b : Bool) → lost n ≡ b → is_some (f m n) ≡ at_mount m (if b then None else seat_of seats n)
        beside apart false e = fits m n
        beside apart true e = fits m n ∙ by_seat (seat_of seats n) refl where
          by_seat : (found : Option Seat) → seat_of seats n ≡ found → at_mount m found ≡ false
          by_seat None s = refl
          by_seat (Some seat) s =
              let sits : bytes_eq seat.mount mount ≡ true = sym (ap (at_mount mount) s) ∙ sym (fits mount n) ∙ was_there e in
              let is : seat.mount ≡ mount = (bytes_eq-Decides seat.mount mount).0 sits in
              ap (λ k. bytes_eq k m) is ∙ apart

-- one was detached, and then attached to a mount at a place; if all parts are here, it is attached nowhere else
pub record IsAnew (is_whole : Bool) (f g : Heard) (id place : ℕ) (mount : List ℕ) : Type 0 where
  pub others : OthersStay f g id
  pub there : g mount id ≡ Some place
  pub off : is_whole ≡ true → (m : List ℕ) → bytes_eq mount m ≡ false → g m id ≡ None

pub attached_anew : (is_whole : Bool) (f h g : Heard) (id place : ℕ) (mount : List ℕ) (boxed : Attachment) → boxed ≡ record { id = id; place = place } → OthersStay f h id
    → (is_whole ≡ true → (m : List ℕ) → h m id ≡ None) → OthersStay h g boxed.id → g mount boxed.id ≡ Some boxed.place
    → ((m : List ℕ) → bytes_eq mount m ≡ false → g m boxed.id ≡ h m boxed.id) → IsAnew is_whole f g id place mount
attached_anew is_whole f h g id place mount boxed is stay off more there elsewhere =
    let same : boxed.id ≡ id = ap (λ (a : Attachment). a.id) is in record {
      others = λ m other apart. subst (λ (n : ℕ). OthersStay h g n) same more m other apart ∙ stay m other apart;
      there = subst (λ (n : ℕ). g mount n ≡ Some boxed.place) same there ∙ ap (λ (a : Attachment). Some a.place) is;
      off = λ whole m apart. subst (λ (n : ℕ). g m n ≡ h m n) same (elsewhere m apart) ∙ off whole m;
    }
