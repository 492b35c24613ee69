-- each listener has its turn, and loses its seat if it lags: that is all who lag
use Rattle.std.proofs.Common.{◌≡◌, Bool, true, false, ℕ, ◌<◌, ◌==◌, Option, Some, None, List, [], ◌∷◌, length, refl, ap, sym, ◌∙◌, arith}
use Rattle.radio_parts_table.proofs.Words.{if◌then◌else◌, find, filter, AllByRecursion, option_map, option_map_or, nat_cmp, Less, nat_tests, sorted_head, sorted_tail, Each, find_here, find_later, find_mapped, Rule}
use Rattle.radio_parts_table.proofs.Words.{Listener, Seat, Seating, Sits, Finished, is_listener, seat_in, seat_held, loses, lost_by, finished_if, next_number, with_end, with_ended, AreByNumber, same_number, numbers_of}
use Rattle.radio_parts_table.proofs.Words.{numbers_past, Heard, heard, heard_by, after_turn, lags_now}
use Rattle.radio_tables.specs.Past.{is_past}
use Rattle.radio_fallback.proofs.CarryLemmas.{everybody_is_past, next_has_his_turn, nobody_is_next}

-- the next number is the same with the places of the attachments
pub next_heard : (f : Heard) (last : Option ℕ) (seats : List Listener) → next_number (heard f seats) last ≡ next_number seats last
next_heard f last seats =
    ap (option_map (λ (l : Listener). l.id)) (find_mapped (λ (l : Listener). is_past nat_cmp last l.id) (heard_by f) (λ l. refl) seats)
    ∙ by_found (find (λ (l : Listener). is_past nat_cmp last l.id) seats)
  where
    by_found : (found : Option Listener) → option_map (λ (l : Listener). l.id) (option_map (heard_by f) found) ≡ option_map (λ (l : Listener). l.id) found
    by_found None = refl
    by_found (Some l) = refl

module _ (p : Seat → Bool) (rule : Rule) where
  abbrev pub turns : List ℕ → List Listener → List Listener
  turns [] seats = seats
  turns (id ∷ ids) seats = turns ids (after_turn p rule seats id)

  -- its own turn
  own_turn : (l : Listener) (seats : List Listener) → after_turn p rule (l ∷ seats) l.id ≡ finished_if p rule l ∷ seats
  own_turn l seats =
      ap (λ (found : Option Seat). if option_map_or p found false then with_end (l ∷ seats) l.id rule else l ∷ seats)
      (ap seat_in (find_here (is_listener l.id) l seats (same_number l.id)))
      ∙ ap (λ (ended : List Listener). if option_map_or p (seat_held l.seating) false then ended else l ∷ seats) ended_here
      ∙ by_seating l.seating
    where
      ended_here : with_end (l ∷ seats) l.id rule ≡ loses rule l ∷ seats
      ended_here = rw (same_number l.id) refl

      by_test : (seat : Seat) (b : Bool) → (if b then record { id = l.id; seating = Finished rule seat.mount } ∷ seats else record { id = l.id; seating = Sits seat } ∷ seats)
          ≡ record { id = l.id; seating = (if b then Finished rule seat.mount else Sits seat) } ∷ seats
      by_test seat true = refl
      by_test seat false = refl

      by_seating : (seating : Seating)
          → (if option_map_or p (seat_held seating) false then record { id = l.id; seating = lost_by rule seating } ∷ seats else record { id = l.id; seating = seating } ∷ seats)
          ≡ finished_if p rule (record { id = l.id; seating = seating }) ∷ seats
      by_seating (Sits seat) = by_test seat (p seat)
      by_seating (Finished other mount) = refl

  -- that of another
  turn_beside : (l : Listener) (seats : List Listener) (n : ℕ) → (l.id == n) ≡ false → after_turn p rule (l ∷ seats) n ≡ l ∷ after_turn p rule seats n
  turn_beside l seats n apart =
      ap (λ (found : Option Seat). if option_map_or p found false then with_end (l ∷ seats) n rule else l ∷ seats)
      (ap seat_in (find_later (is_listener n) l seats apart))
      ∙ ap (λ (ended : List Listener). if lags_now p seats n then ended else l ∷ seats) ended_later
      ∙ by_test (lags_now p seats n)
    where
      ended_later : with_end (l ∷ seats) n rule ≡ l ∷ with_end seats n rule
      ended_later = rw apart refl

      by_test : (b : Bool) → (if b then l ∷ with_end seats n rule else l ∷ seats) ≡ l ∷ (if b then with_end seats n rule else seats)
      by_test true = refl
      by_test false = refl

  turns_beside : (l : Listener) (ids : List ℕ) (seats : List Listener) → Each (λ n. (l.id == n) ≡ false) ids → turns ids (l ∷ seats) ≡ l ∷ turns ids seats
  turns_beside l [] seats all = refl
  turns_beside l (n ∷ ids) seats all =
      ap (turns ids) (turn_beside l seats n all.0) ∙ turns_beside l ids (after_turn p rule seats n) all.1

  all_apart : (n : ℕ) (ns : List ℕ) → AllByRecursion (λ m. nat_cmp n m ≡ Less) ns → Each (λ m. (n == m) ≡ false) ns
  all_apart n [] all = tt
  all_apart n (m ∷ ns) all = (apart all.0, all_apart n ns all.1) where
    apart : nat_cmp n m ≡ Less → (n == m) ≡ false
    apart less = grind (arith, nat_tests)

  all_turns : (seats : List Listener) → AreByNumber seats → turns (numbers_of seats) seats ≡ with_ended seats p rule
  all_turns [] rising = refl
  all_turns (l ∷ seats) rising =
      ap (turns (numbers_of seats)) (own_turn l seats)
      ∙ turns_beside (finished_if p rule l) (numbers_of seats) seats (all_apart l.id (numbers_of seats) (sorted_head nat_cmp l.id (numbers_of seats) rising))
      ∙ ap (λ ls. finished_if p rule l ∷ ls) (all_turns seats (sorted_tail nat_cmp l.id (numbers_of seats) rising))

  pub turns_begin : (seats : List Listener) → AreByNumber seats → turns (numbers_past None seats) seats ≡ with_ended seats p rule
  turns_begin seats rising = ap (λ ids. turns ids seats) (everybody_is_past (numbers_of seats)) ∙ all_turns seats rising

  -- the numbers stay
  numbers_at : (id : ℕ) (l : Listener) (seats : List Listener) (b : Bool) → numbers_of (with_end seats id rule) ≡ numbers_of seats
      → numbers_of (if b then loses rule l ∷ seats else l ∷ with_end seats id rule) ≡ numbers_of (l ∷ seats)
  numbers_at id l seats true later = refl
  numbers_at id l seats false later = ap (λ ns. l.id ∷ ns) later

  numbers_end : (id : ℕ) (seats : List Listener) → numbers_of (with_end seats id rule) ≡ numbers_of seats
  numbers_end id [] = refl
  numbers_end id (l ∷ seats) = numbers_at id l seats (is_listener id l) (numbers_end id seats)

  numbers_turn : (seats : List Listener) (id : ℕ) → numbers_of (after_turn p rule seats id) ≡ numbers_of seats
  numbers_turn seats id = by_test (lags_now p seats id) where
    by_test : (b : Bool) → numbers_of (if b then with_end seats id rule else seats) ≡ numbers_of seats
    by_test true = numbers_end id seats
    by_test false = refl

  module _ (seats later : List Listener) (last : Option ℕ) (id : ℕ) (is : later ≡ after_turn p rule seats id) (rising : AreByNumber seats)
      (next : Some id ≡ next_number seats last) where
    those_left : numbers_past (Some id) later ≡ numbers_past (Some id) seats
    those_left = ap (filter (is_past nat_cmp (Some id))) (ap numbers_of is ∙ numbers_turn seats id)

    pub turns_go_on : turns (numbers_past (Some id) later) later ≡ turns (numbers_past last seats) seats
    turns_go_on =
        ap (λ ids. turns ids later) those_left ∙ ap (turns (numbers_past (Some id) seats)) is
        ∙ sym (ap (λ ids. turns ids seats) (next_has_his_turn seats last id rising next))

    pub fewer_turns : length (numbers_past (Some id) later) < length (numbers_past last seats)
    fewer_turns =
        let rest = ap length those_left in
        let all = ap length (next_has_his_turn seats last id rising next) in
        omega (arith, rest, all)

  pub turns_end : (seats : List Listener) (last : Option ℕ) → None ≡ next_number seats last → turns (numbers_past last seats) seats ≡ seats
  turns_end seats last none = ap (λ ids. turns ids seats) (nobody_is_next seats last none)
