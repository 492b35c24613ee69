-- of whom a test holds, and the first moment of those who have seats
use Rattle.std.proofs.Common.{◌≡◌, Bool, true, ℕ, ◌<◌, ◌==◌, Some, None, List, [], ◌∷◌, refl, ap, ◌∙◌, arith}
use Rattle.radio_seats.proofs.Words.{min, fold, find, map, bytes_eq, bytes_eq-Decides, found_passes, ListenerRow, RowState, Seated, Ended, Guest, Listener, passes_in, passes_at, moment_in, how_many, number_of, holds_in}
use Rattle.radio_seats.proofs.Words.{state_moment, named, named_state, state_at, sits_by, holds_of, passing, found_counts, none_passes, map_counted, same_number}

-- of whom the test holds
module _ (p : Guest → Bool) (name : ℕ → List ℕ) (rows : List ListenerRow) where
  shows_it : (state : RowState) → holds_of (passes_in p) (named_state name state) ≡ holds_in p state
  shows_it (Seated seat) = refl
  shows_it (Ended rule mount) = refl

  pub none_pass : find (λ (row : ListenerRow). holds_in p row.state) rows ≡ None → how_many (passes_in p) (map (named name) rows) ≡ 0
  none_pass none =
      map_counted (named name) (λ (row : ListenerRow). holds_in p row.state) (λ (listener : Listener). holds_of (passes_in p) listener.seating)
      (λ row. shows_it row.state) rows
      ∙ none_passes (λ (row : ListenerRow). holds_in p row.state) rows none

  module _ (row : ListenerRow) (number : ℕ) (found : find (λ (r : ListenerRow). holds_in p r.state) rows ≡ Some row) (his : number_of row.state ≡ Some number) where
    sits_by_it : (state : RowState) → number_of state ≡ Some number → state_at number state ≡ true
    sits_by_it (Seated seat) e = let same : seat.mount ≡ number = cc in ap (λ n. n == number) same ∙ same_number number
    sits_by_it (Ended rule mount) e = cc

    pub some_sit : 0 < passing (sits_by number) rows
    some_sit = found_counts (sits_by number) (λ (r : ListenerRow). holds_in p r.state) rows row found (sits_by_it row.state his)

    passes_there : (mount : List ℕ) → name number ≡ mount → (state : RowState) → number_of state ≡ Some number → holds_in p state ≡ true
        → holds_of (passes_at mount p) (named_state name state) ≡ true
    passes_there mount called (Seated seat) e holds =
        let same : seat.mount ≡ number = cc in
        let there : bytes_eq (name seat.mount) mount ≡ true = (bytes_eq-Decides (name seat.mount) mount).1 (ap name same ∙ called) in
        rw (there, holds) refl
    passes_there mount called (Ended rule last) e holds = cc

    pub some_pass : (mount : List ℕ) → name number ≡ mount → 0 < how_many (passes_at mount p) (map (named name) rows)
    some_pass mount called =
        let shown = map_counted (named name) (λ (r : ListenerRow). holds_of (passes_at mount p) (named_state name r.state))
        (λ (listener : Listener). holds_of (passes_at mount p) listener.seating) (λ r. refl) rows in
        let some = found_counts (λ (r : ListenerRow). holds_of (passes_at mount p) (named_state name r.state)) (λ (r : ListenerRow). holds_in p r.state) rows row found
        (passes_there mount called row.state his (found_passes (λ (r : ListenerRow). holds_in p r.state) rows row found)) in
        omega (arith, shown, some)

-- who passes sits somewhere
pub passes_seated : (p : Guest → Bool) (rows : List ListenerRow) (row : ListenerRow) → find (λ (r : ListenerRow). holds_in p r.state) rows ≡ Some row
    → number_of row.state ≡ None → ⊥
passes_seated p rows row found none = by_state row.state none (found_passes (λ (r : ListenerRow). holds_in p r.state) rows row found) where
  by_state : (state : RowState) → number_of state ≡ None → holds_in p state ≡ true → ⊥
  by_state (Seated seat) e h = cc
  by_state (Ended rule mount) e h = cc

moment_shown : (moment : Guest → ℕ) (other : ℕ) (name : ℕ → List ℕ) (state : RowState)
    → state_moment moment other state ≡ moment_in moment other (named_state name state)
moment_shown moment other name (Seated seat) = refl
moment_shown moment other name (Ended rule mount) = refl

-- the rows' first moment is that of the listeners whom they show
pub moments_shown : (moment : Guest → ℕ) (last : ℕ) (name : ℕ → List ℕ) (rows : List ListenerRow) (first : ℕ)
    → fold (λ t (row : ListenerRow). min t (state_moment moment last row.state)) first rows
    ≡ fold (λ t (listener : Listener). min t (moment_in moment last listener.seating)) first (map (named name) rows)
moments_shown moment last name [] first = refl
moments_shown moment last name (row ∷ rows) first =
    ap (λ t. fold (λ t (row : ListenerRow). min t (state_moment moment last row.state)) (min first t) rows) (moment_shown moment last name row.state)
    ∙ moments_shown moment last name rows (min first (moment_in moment last (named_state name row.state)))
