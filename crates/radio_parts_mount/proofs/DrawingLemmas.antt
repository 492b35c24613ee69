-- what a draw changes among the attachments of a mount
use Rattle.std.proofs.Common.{◌≡◌, ℕ, Option, Some, None, List, Result, Ok, Err, refl, ap, sym, subst, ◌∙◌}
use Rattle.radio_parts_mount.proofs.Words.{find, AllocError, update_first, changed_alike, unchanged, Attachment, is_attached, at_place, FoundIsVisited, IsVisitedIn, Session, Portion, IsDrawn, IsKept, heard_on}
use Rattle.radio_parts_mount.proofs.PartLemmas.{none_changes}

module _ {V : Type 0} (Visits : V → ℕ → Unit {0} → V → ℕ → Type 0) (draws draws' : V) (id : ℕ) (rows rows' : List Attachment) (answer : Option (Unit {0}))
    (visited : IsVisitedIn Visits id draws rows answer draws' rows') (session : Option Session) (room : ℕ) (before handed : Portion)
    (drawn : Result (Unit {0}) AllocError)
    (is_drawn : (place after : ℕ) (a : Unit {0}) → Visits draws place a draws' after → IsDrawn session room place before drawn handed after) where
  abbrev Visited : Option (Unit {0}) → Option Attachment → Type 0
  Visited a found = FoundIsVisited Visits id draws rows a draws' rows' found

  visited_so : (a : Option (Unit {0})) → answer ≡ a → Visited a (find (is_attached id) rows)
  visited_so a is = subst (λ (b : Option (Unit {0})). Visited b (find (is_attached id) rows)) is visited

  abbrev DrawnAt : ℕ → Result (Unit {0}) AllocError → ℕ → Type 0
  DrawnAt place its after = IsDrawn session room place before its handed after

  -- it has heard more who was handed something
  pub has_drawn : (a done : Unit {0}) → answer ≡ Some a → drawn ≡ Ok done
      → ((row : Attachment) → find (is_attached id) rows ≡ Some row → IsKept session row.place) → rows' ≡ update_first (is_attached id) (heard_on session room) rows
  has_drawn a done is ok kept = by_found (find (is_attached id) rows) refl (visited_so (Some a) is) where
    by_found : (found : Option Attachment) → find (is_attached id) rows ≡ found → Visited (Some a) found
        → rows' ≡ update_first (is_attached id) (heard_on session room) rows
    by_found None e h = let none : Some a ≡ None = h.0 in cc
    by_found (Some row) e h =
        let so = subst (λ (its : Result (Unit {0}) AllocError). DrawnAt row.place its h.1) ok (is_drawn row.place h.1 h.0 h.4) in
        h.3
        ∙ changed_alike (is_attached id) (at_place h.1) (heard_on session room) row
        (ap (λ (place : ℕ). at_place place row) ((so.portion (kept row e)).1)) rows e

  -- nothing has changed if memory was refused
  pub was_refused : (a : Unit {0}) (refused : AllocError) → answer ≡ Some a → drawn ≡ Err refused → rows' ≡ rows
  was_refused a refused is err = by_found (find (is_attached id) rows) refl (visited_so (Some a) is) where
    by_found : (found : Option Attachment) → find (is_attached id) rows ≡ found → Visited (Some a) found → rows' ≡ rows
    by_found None e h = let none : Some a ≡ None = h.0 in cc
    by_found (Some row) e h =
        let so = subst (λ (its : Result (Unit {0}) AllocError). DrawnAt row.place its h.1) err (is_drawn row.place h.1 h.0 h.4) in
        h.3 ∙ unchanged (is_attached id) (at_place h.1) row (ap (λ (place : ℕ). at_place place row) so.refused) rows e

  -- and if the listener is not attached
  pub is_absent : answer ≡ None → rows' ≡ update_first (is_attached id) (heard_on session room) rows
  is_absent is = by_found (find (is_attached id) rows) refl (visited_so None is) where
    by_found : (found : Option Attachment) → find (is_attached id) rows ≡ found → Visited None found
        → rows' ≡ update_first (is_attached id) (heard_on session room) rows
    by_found None e h = h.2 ∙ sym (none_changes (is_attached id) (heard_on session room) rows e)
    by_found (Some row) e h = let none : None ≡ Some h.0 = h.2 in cc
