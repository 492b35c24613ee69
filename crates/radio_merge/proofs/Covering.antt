-- What is no entry of a merge lies in the range of a cut.
use Rattle.std.proofs.Common.{◌≡◌, ◌⊎◌, inl, inr, ℕ, zero, suc, ◌+◌, ◌-◌, ◌<◌, ◌≤◌, List, [], ◌∷◌, ◌++◌, Option, Some, None, length, replicate, refl, sym, ap, subst, ◌∙◌, arith, append_assoc}
use Rattle.radio_merge.proofs.Words.{slice_get, slice_set, unwrap_or, Entry, ControlLine, MountItem, Stamp, Positions, PastCuts, Merged, Begins, LeavesOut, TakesOwn, TakesControl}
use Rattle.std.specs.Option.{option_map}
use Rattle.std.proofs.lemmas.Bool.{false≢true}
use Rattle.std.proofs.lemmas.Option.{slice_get_within, slice_get-map}
use Rattle.radio_chronicle.specs.declared.line.ControlLine.TheVariants.{Cut, Made}
use Rattle.radio_merge.specs.Covered.{IsMade, InCut, TheControlMakesTheRest}

some_same : (a b : ℕ) → Some a ≡ Some b → a ≡ b
some_same a b e = ap (λ (o : Option ℕ). unwrap_or o 0) e

-- what a list has at a place after another was written
set_case : (xs : List ℕ) (i j v n : ℕ) → slice_get (slice_set xs i v) j ≡ Some n → ((i ≡ j) × (v ≡ n)) ⊎ (slice_get xs j ≡ Some n)
set_case [] i j v n e = inr e
set_case (x ∷ xs) zero zero v n e = inl (refl, some_same v n e)
set_case (x ∷ xs) zero (suc j) v n e = inr e
set_case (x ∷ xs) (suc i) zero v n e = inr e
set_case (x ∷ xs) (suc i) (suc j) v n e = further (set_case xs i j v n e) where
  further : ((i ≡ j) × (v ≡ n)) ⊎ (slice_get xs j ≡ Some n) → ((suc i ≡ suc j) × (v ≡ n)) ⊎ (slice_get xs j ≡ Some n)
  further (inl h) = inl (ap suc h.0, h.1)
  further (inr h) = inr h

none_yet : (k m n : ℕ) → slice_get (replicate k 0) m ≡ Some n → n ≡ 0
none_yet zero m n e = absurd (cc)
none_yet (suc k) zero n e = sym (some_same 0 n e)
none_yet (suc k) (suc m) n e = none_yet k m n e

pub line_at : (before lines : List ControlLine) (line : ControlLine) → slice_get (before ++ line ∷ lines) (length before) ≡ Some line
line_at [] lines line = refl
line_at (x ∷ before) lines line = line_at before lines line

below_or : (i n : ℕ) → i ≤ n → (i < n) ⊎ (i ≡ n)
below_or zero zero h = inr refl
below_or zero (suc n) h = inl (omega arith)
below_or (suc i) zero h = absurd (omega (arith, h))
below_or (suc i) (suc n) h = further (below_or i n (omega (arith, h))) where
  further : (i < n) ⊎ (i ≡ n) → (suc i < suc n) ⊎ (suc i ≡ suc n)
  further (inl b) = inl (omega (arith, b))
  further (inr b) = inr (ap suc b)

low_or : (f i : ℕ) → (i < f) ⊎ (f ≤ i)
low_or zero i = inr (omega arith)
low_or (suc f) zero = inl (omega arith)
low_or (suc f) (suc i) = further (low_or f i) where
  further : (i < f) ⊎ (f ≤ i) → (suc i < suc f) ⊎ (suc f ≤ suc i)
  further (inl b) = inl (omega (arith, b))
  further (inr b) = inr (omega (arith, b))

module _ (control : List ControlLine) (mounts : List (List MountItem)) where
  -- of what was taken so far, what a control entry makes lies in the range of a cut
  abbrev AreCovered : List ℕ → Type 0
  AreCovered at = (m n i : ℕ) (items : List MountItem) (item : MountItem) → slice_get at m ≡ Some n → slice_get mounts m ≡ Some items → i < n
      → slice_get items i ≡ Some item → IsMade item → InCut control m i

  abbrev items_or : Option (List MountItem) → List MountItem
  items_or None = []
  items_or (Some items) = items

  abbrev item_or : Option MountItem → MountItem → MountItem
  item_or None d = d
  item_or (Some x) d = x

  -- one item more, which no control entry makes
  one_more : (at : List ℕ) (m' n' : ℕ) (items' : List MountItem) (item' : MountItem) → AreCovered at → slice_get mounts m' ≡ Some items'
      → slice_get at m' ≡ Some n' → slice_get items' n' ≡ Some item' → (IsMade item' → ⊥) → AreCovered (slice_set at m' (n' + 1))
  one_more at m' n' items' item' covered list reached next other m n i items item taken here below stands made =
      by_place (set_case at m' m (n' + 1) n taken)
    where
      at_it : m' ≡ m → n' + 1 ≡ n → (i < n') ⊎ (i ≡ n') → InCut control m i
      at_it same all (inl b) = covered m n' i items item (subst (λ k. slice_get at k ≡ Some n') same reached) here b stands made
      at_it same all (inr b) =
          let lists : items' ≡ items = ap items_or (sym list ∙ ap (slice_get mounts) same ∙ here) in
          let one : item' ≡ item = ap (λ o. item_or o item) (sym next ∙ ap (λ (xs : List MountItem). slice_get xs n') lists ∙ ap (slice_get items) (sym b) ∙ stands) in
          absurd (other (subst IsMade (sym one) made))

      by_place : ((m' ≡ m) × (n' + 1 ≡ n)) ⊎ (slice_get at m ≡ Some n) → InCut control m i
      by_place (inl h) = at_it h.0 h.1 (below_or i n' (omega (arith, below, h.1)))
      by_place (inr h) = covered m n i items item h here below stands made

  -- behind the cuts before an entry
  past_cuts : (before lines : List ControlLine) (at : List ℕ) (e : Entry) (rest : List ControlLine) (at' : List ℕ) → control ≡ before ++ lines
      → AreCovered at → PastCuts lines at e rest at' → AreCovered at' × ((behind : List ControlLine) × (control ≡ behind ++ rest))
  past_cuts before [] at e rest at' is covered past = absurd past
  past_cuts before (Made x ∷ lines) at e rest at' is covered past = (
    subst AreCovered (sym past.2) covered,
    (before ++ Made x ∷ [], is ∙ sym (append_assoc before (Made x ∷ []) lines) ∙ ap (λ (xs : List ControlLine). (before ++ Made x ∷ []) ++ xs) (sym past.1)),
  )
  past_cuts before (Cut list from to ∷ lines) at e rest at' is covered past =
      past_cuts (before ++ Cut list from to ∷ []) lines (slice_set at (list - 1) to) e rest at'
      (is ∙ sym (append_assoc before (Cut list from to ∷ []) lines)) next past.2
    where
      at_it : (m n i : ℕ) (items : List MountItem) (item : MountItem) → slice_get mounts m ≡ Some items → i < n → slice_get items i ≡ Some item → IsMade item
          → list - 1 ≡ m → to ≡ n → (i < from) ⊎ (from ≤ i) → InCut control m i
      at_it m n i items item here below stands made same all (inl b) =
          covered m from i items item (subst (λ k. slice_get at k ≡ Some from) same past.1) here b stands made
      at_it m n i items item here below stands made same all (inr b) =
          record {
            list = list;
            from = from;
            to = to;
            place = length before;
            line = ap (λ (xs : List ControlLine). slice_get xs (length before)) is ∙ line_at before lines (Cut list from to);
            is = omega (arith, past.0, same);
            low = b;
            high = omega (arith, below, all);
          }

      by_place : (m n i : ℕ) (items : List MountItem) (item : MountItem) → slice_get mounts m ≡ Some items → i < n → slice_get items i ≡ Some item → IsMade item
          → ((list - 1 ≡ m) × (to ≡ n)) ⊎ (slice_get at m ≡ Some n) → InCut control m i
      by_place m n i items item here below stands made (inl h) = at_it m n i items item here below stands made h.0 h.1 (low_or from i)
      by_place m n i items item here below stands made (inr h) = covered m n i items item h here below stands made

      next : AreCovered (slice_set at (list - 1) to)
      next m n i items item taken here below stands made = by_place m n i items item here below stands made (set_case at (list - 1) m to n taken)

  -- all that was taken so far
  covered_by : (order : List Stamp) (history : List Entry) (at : Positions) → Merged control mounts order history at
      → AreCovered at.mounts × ((behind : List ControlLine) × (control ≡ behind ++ at.control))
  covered_by order history at Begins = (
    (λ m n i items item taken here below stands made.
        let none = none_yet (length mounts) m n taken in absurd (omega (arith, none, below))),
    ([], refl),
  )
  covered_by order history at (LeavesOut order' history' was m n item merged next out) =
      let before = covered_by order' history' was merged in
      (one_more was.mounts m n next.items item before.0 next.list next.reached next.next (λ made. false≢true (sym made.no_lag ∙ out)), before.1)
  covered_by order history at (TakesOwn order' history' was m n item entry merged next own) =
      let before = covered_by order' history' was merged in
      (one_more was.mounts m n next.items item before.0 next.list next.reached next.next (λ made. none_some (sym made.no_entry ∙ own)), before.1)
    where
      none_some : None ≡ Some entry → ⊥
      none_some e = cc
  covered_by order history at (TakesControl order' history' was now entry merged past) =
      let before = covered_by order' history' was merged in past_cuts before.1.0 was.control was.mounts entry now.control now.mounts before.1.1 before.0 past

pub made_by_the_control : TheControlMakesTheRest
made_by_the_control control mounts order history merge m i items item here stands made =
    let covered = (covered_by control mounts order history merge.at merge.merged).0 in
    covered m (length items) i items item
    (ap (λ (xs : List ℕ). slice_get xs m) merge.ends.all ∙ slice_get-map length mounts m ∙ ap (λ (o : Option (List MountItem)). option_map length o) here)
    here (slice_get_within items i item stands) stands made
