-- A merge takes at each place of its order the entry that is there.
use Rattle.std.proofs.Common.{◌≡◌, ℕ, ◌+◌, ◌-◌, ◌==◌, Bool, false, List, [], ◌∷◌, ◌++◌, Option, Some, length, length-append}
use Rattle.std.proofs.Common.{refl, sym, ap, ◌∙◌, append_assoc, arith}
use Rattle.radio_hall.proofs.Words.{if◌then◌else◌, slice_get, option_and_then, nat_tests, Entry, ControlLine, Stamp, line_entry, stamp, MountItem, own_entry, IsNext, Merged, PastCuts, Positions, Begins, LeavesOut}
use Rattle.radio_hall.proofs.Words.{TakesOwn, TakesControl, entry_at, own_at}
use Rattle.radio_chronicle.specs.declared.line.ControlLine.TheVariants.{Cut, Made}
use Rattle.radio_merge.proofs.Covering.{line_at}

module _ (control : List ControlLine) (mounts : List (List MountItem)) where
  -- each of these entries is at its place
  abbrev pub ArePlaced : List Stamp → List Entry → Type 0
  ArePlaced [] [] = Unit {0}
  ArePlaced [] (e ∷ history) = ⊥
  ArePlaced (at ∷ order) [] = ⊥
  ArePlaced (at ∷ order) (e ∷ history) = (entry_at control mounts at ≡ Some e) × ArePlaced order history

  placed_then : (order : List Stamp) (history : List Entry) (at : Stamp) (e : Entry) → ArePlaced order history → entry_at control mounts at ≡ Some e
      → ArePlaced (order ++ at ∷ []) (history ++ e ∷ [])
  placed_then [] [] at e placed here = (here, tt)
  placed_then [] (x ∷ history) at e placed here = absurd placed
  placed_then (s ∷ order) [] at e placed here = absurd placed
  placed_then (s ∷ order) (x ∷ history) at e placed here = (placed.0, placed_then order history at e placed.1 here)

  own_is_there : (at : Positions) (m n : ℕ) (item : MountItem) (e : Entry) → IsNext mounts at m n item → own_entry item ≡ Some e
      → entry_at control mounts (stamp (m + 1) (n + 1)) ≡ Some e
  own_is_there at m n item e next own =
      let mounts_list : (m + 1 == 0) ≡ false = grind (arith, nat_tests) in
      let mount : m + 1 - 1 ≡ m = omega arith in
      let place : n + 1 - 1 ≡ n = omega arith in
      ap (λ (b : Bool). if b then option_and_then line_entry (slice_get control (n + 1 - 1)) else option_and_then (own_at (n + 1 - 1)) (slice_get mounts (m + 1 - 1)))
      mounts_list
      ∙ ap (λ (k : ℕ). option_and_then (own_at k) (slice_get mounts (m + 1 - 1))) place
      ∙ ap (λ (k : ℕ). option_and_then (own_at n) (slice_get mounts k)) mount
      ∙ ap (λ (o : Option (List MountItem)). option_and_then (own_at n) o) next.list
      ∙ ap (λ (o : Option MountItem). option_and_then own_entry o) next.next
      ∙ own

  -- the line before what is left of the control's list
  line_is_there : (before lines rest : List ControlLine) (e : Entry) → control ≡ before ++ Made e ∷ lines → rest ≡ lines
      → entry_at control mounts (stamp 0 (length control - length rest)) ≡ Some e
  line_is_there before lines rest e is left =
      let long = ap length is ∙ length-append before (Made e ∷ lines) in
      let place : length control - length rest - 1 ≡ length before = omega (arith, long, ap length left) in
      ap (λ (k : ℕ). option_and_then line_entry (slice_get control k)) place
      ∙ ap (λ (xs : List ControlLine). option_and_then line_entry (slice_get xs (length before))) is
      ∙ ap (λ (o : Option ControlLine). option_and_then line_entry o) (line_at before lines (Made e))

  -- the entry behind the cuts is there, and what is left of the control's list is its end
  made_is_there : (before lines : List ControlLine) (at : List ℕ) (e : Entry) (rest : List ControlLine) (at' : List ℕ) → control ≡ before ++ lines
      → PastCuts lines at e rest at'
      → (entry_at control mounts (stamp 0 (length control - length rest)) ≡ Some e) × ((behind : List ControlLine) × (control ≡ behind ++ rest))
  made_is_there before [] at e rest at' is past = absurd past
  made_is_there before (Cut list from to ∷ lines) at e rest at' is past =
      made_is_there (before ++ Cut list from to ∷ []) lines _ e rest at' (is ∙ sym (append_assoc before (Cut list from to ∷ []) lines)) past.2
  made_is_there before (Made x ∷ lines) at e rest at' is past = (
    line_is_there before lines rest e (is ∙ ap (λ (y : Entry). before ++ Made y ∷ lines) (sym past.0)) past.1,
    (
      before ++ Made x ∷ [],
      is ∙ sym (append_assoc before (Made x ∷ []) lines) ∙ ap (λ (xs : List ControlLine). (before ++ Made x ∷ []) ++ xs) (sym past.1),
    ),
  )

  -- each entry of a merge is at its place, and what is left of the control's list is its end
  pub merge_is_placed : (order : List Stamp) (history : List Entry) (at : Positions) → Merged control mounts order history at
      → ArePlaced order history × ((behind : List ControlLine) × (control ≡ behind ++ at.control))
  merge_is_placed order history at Begins = (tt, ([], refl))
  merge_is_placed order history at (LeavesOut order' history' was m n item merged next out) = merge_is_placed order' history' was merged
  merge_is_placed order history at (TakesOwn order' history' was m n item entry merged next own) =
      let before = merge_is_placed order' history' was merged in
      (placed_then order' history' (stamp (m + 1) (n + 1)) entry before.0 (own_is_there was m n item entry next own), before.1)
  merge_is_placed order history at (TakesControl order' history' was now entry merged past) =
      let before = merge_is_placed order' history' was merged in
      let made = made_is_there before.1.0 was.control was.mounts entry now.control now.mounts before.1.1 past in
      (placed_then order' history' (stamp 0 (length control - length now.control)) entry before.0 made.0, made.1)
