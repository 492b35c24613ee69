-- prepared mounts, where the counts of one of them change
use Rattle.std.proofs.Common.{◌≡◌, Bool, true, false, ℕ, ◌+◌, ◌-◌, ◌==◌, Option, Some, None, List, refl, ap, sym, ◌∙◌, arith}
use Rattle.std.specs.Prelude.{find, if◌then◌else◌}
use Rattle.std.proofs.lemmas.Bool.{eqb-true}
use Rattle.radio_tables.specs.Lists.{update_first}
use Rattle.radio_tables.proofs.FindLaws.{find_same, find_apart}
use Rattle.radio_tables.proofs.KeyLaws.{by_number}
use Rattle.radio_seats_rows.specs.declared.mounts.Mount.{Mount}
use Rattle.radio_seats_rows.specs.declared.mounts.NumberedName.{NumberedName}
use Rattle.radio_seats_rows.specs.Mounts.{is_numbered, is_named, name_of, name_in, IsThere, AreMounts}
use Rattle.radio_seats_rows.proofs.Lists.{same_number}

-- counts that change
module _ (names : List NumberedName) (mounts : List Mount) (last number sitters namers : ℕ) (mount : Mount) (found : find (is_numbered number) mounts ≡ Some mount) where
  abbrev pub counting : Mount → Mount
  counting m = record m { sitting = sitters; naming = namers }

  abbrev pub recounted : List Mount
  recounted = update_first (is_numbered number) counting mounts

  abbrev FoundThen : ℕ → Type 0
  FoundThen k = find (is_numbered k) recounted ≡ (if number == k then Some (counting mount) else find (is_numbered k) mounts)

  pub found_then : (k : ℕ) → FoundThen k
  found_then k = by_number number k
      (λ same.
      let here : find (is_numbered number) recounted ≡ Some (counting mount) = find_same (is_numbered number) counting (λ x. refl) mounts mount found in
      let test : (number == k) ≡ true = ap (λ n. number == n) (sym same) ∙ same_number number in
      ap (λ n. find (is_numbered n) recounted) (sym same) ∙ here ∙ sym (rw test refl))
      (λ other.
      find_apart (is_numbered k) (is_numbered number) counting
      (λ x e. let apart : is_numbered k x ≡ false = ap (λ n. n == k) (eqb-true x.number number e) ∙ other in (apart, apart)) mounts
      ∙ sym (rw other refl))

  -- one of the two
  module _ (count : Option Mount → ℕ) where
    abbrev before : ℕ → ℕ
    before k = count (find (is_numbered k) mounts)

    abbrev after : ℕ → ℕ
    after k = count (find (is_numbered k) recounted)

    counted_by : (k : ℕ) (b : Bool) → count (if b then Some (counting mount) else find (is_numbered k) mounts) ≡ (if b then count (Some (counting mount)) else before k)
    counted_by k true = refl
    counted_by k false = refl

    counted_then : (k : ℕ) → after k ≡ (if number == k then count (Some (counting mount)) else before k)
    counted_then k = ap count (found_then k) ∙ counted_by k (number == k)

    was : (k : ℕ) → (number == k) ≡ true → before k ≡ count (Some mount)
    was k e = ap before (sym (eqb-true number k e)) ∙ ap count found

    gained_by : (k : ℕ) (b : Bool) → (number == k) ≡ b → count (Some (counting mount)) ≡ count (Some mount) + 1
        → (if b then count (Some (counting mount)) else before k) ≡ before k + (if b then 1 else 0)
    gained_by k true e more = more ∙ ap (λ n. n + 1) (sym (was k e))
    gained_by k false e more = omega arith

    pub gained : count (Some (counting mount)) ≡ count (Some mount) + 1 → (k : ℕ)
        → count (find (is_numbered k) recounted) ≡ count (find (is_numbered k) mounts) + (if number == k then 1 else 0)
    gained more k = counted_then k ∙ gained_by k (number == k) refl more

    lost_by : (away k : ℕ) (b : Bool) → (number == k) ≡ b → count (Some (counting mount)) ≡ count (Some mount) - away
        → (if b then count (Some (counting mount)) else before k) ≡ before k - (if b then away else 0)
    lost_by away k true e less = less ∙ ap (λ n. n - away) (sym (was k e))
    lost_by away k false e less = omega arith

    pub lost : (away : ℕ) → count (Some (counting mount)) ≡ count (Some mount) - away → (k : ℕ)
        → count (find (is_numbered k) recounted) ≡ count (find (is_numbered k) mounts) - (if number == k then away else 0)
    lost away less k = counted_then k ∙ lost_by away k (number == k) refl less

    kept_by : (k : ℕ) (b : Bool) → (number == k) ≡ b → count (Some (counting mount)) ≡ count (Some mount)
        → (if b then count (Some (counting mount)) else before k) ≡ before k
    kept_by k true e same = same ∙ sym (was k e)
    kept_by k false e same = refl

    pub kept : count (Some (counting mount)) ≡ count (Some mount) → (k : ℕ)
        → count (find (is_numbered k) recounted) ≡ count (find (is_numbered k) mounts)
    kept same k = counted_then k ∙ kept_by k (number == k) refl same

  named_by : (k : ℕ) (b : Bool) → (number == k) ≡ b → name_of (if b then Some (counting mount) else find (is_numbered k) mounts) ≡ name_in mounts k
  named_by k true e = sym (ap (name_in mounts) (sym (eqb-true number k e)) ∙ ap name_of found)
  named_by k false e = refl

  pub named_then : (k : ℕ) → name_in recounted k ≡ name_in mounts k
  named_then k = ap name_of (found_then k) ∙ named_by k (number == k) refl

  -- the mount of a number is there with its name, as before
  was_by : (k : ℕ) (m : Mount) (b : Bool) → (number == k) ≡ b → (if b then Some (counting mount) else find (is_numbered k) mounts) ≡ Some m
      → (old : Mount) × (find (is_numbered k) mounts ≡ Some old) × (old.name ≡ m.name)
  was_by k m true e h =
      let one : counting mount ≡ m = cc in
      (mount, ap (λ n. find (is_numbered n) mounts) (sym (eqb-true number k e)) ∙ found, ap (λ (x : Mount). x.name) one)
  was_by k m false e h = (m, h, refl)

  is_by : (k : ℕ) (m : Mount) (b : Bool) → (number == k) ≡ b → find (is_numbered k) mounts ≡ Some m
      → (later : Mount) × ((if b then Some (counting mount) else find (is_numbered k) mounts) ≡ Some later) × (later.name ≡ m.name)
  is_by k m true e h =
      let here : find (is_numbered k) mounts ≡ Some mount = ap (λ n. find (is_numbered n) mounts) (sym (eqb-true number k e)) ∙ found in
      let one : mount ≡ m = cc in
      (counting mount, refl, ap (λ (x : Mount). x.name) one)
  is_by k m false e h = (m, h, refl)

  free_by : (k : ℕ) (b : Bool) → (number == k) ≡ b → find (is_numbered k) mounts ≡ None
      → (if b then Some (counting mount) else find (is_numbered k) mounts) ≡ None
  free_by k true e none =
      let here : find (is_numbered k) mounts ≡ Some mount = ap (λ n. find (is_numbered n) mounts) (sym (eqb-true number k e)) ∙ found in cc
  free_by k false e none = none

  pub still_mounts : AreMounts names mounts last → AreMounts names recounted last
  still_mounts are = record {
    by_number = λ k m e.
        let old = was_by k m (number == k) refl (sym (found_then k) ∙ e) in
        ap (λ n. find (is_named n) names) (sym old.2) ∙ are.by_number k old.0 old.1
        ∙ ap (λ n. Some (record { name = n; number = k })) old.2;
    by_name = λ name entry e.
        let there = are.by_name name entry e in
        let later = is_by entry.number there.0 (number == entry.number) refl there.1 in
        (later.0, found_then entry.number ∙ later.1, later.2 ∙ there.2);
    free = λ k above. found_then k ∙ free_by k (number == k) refl (are.free k above);
  }

  there_by : (k : ℕ) (m : Mount) (b : Bool) → (number == k) ≡ b → find (is_numbered k) mounts ≡ Some m
      → (later : Mount) × ((if b then Some (counting mount) else find (is_numbered k) mounts) ≡ Some later)
  there_by k m true e h = (counting mount, refl)
  there_by k m false e h = (m, h)

  pub there_still : (k : ℕ) → IsThere mounts k → IsThere recounted k
  there_still k there =
      let later = there_by k there.0 (number == k) refl there.1 in
      (later.0, found_then k ∙ later.1)
