-- No two entries of a server's lists have one place.
use Rattle.std.proofs.Common.{◌≡◌, ◌⊎◌, inl, inr, ℕ, ◌+◌, ◌≤◌, ◌==◌, Bool, true, false, ◌&&◌, List, [], ◌∷◌, Option, cond, refl, arith}
use Rattle.radio_hall.proofs.Words.{if◌then◌else◌, is_some, nat_tests, sum_by-append, sum_by-cons, Entry, ControlLine, Stamp, line_entry, stamp, MountItem, own_entry, IsEachOnce, all_places, own_places, places_of, times}
use Rattle.radio_hall.proofs.Twins.{one_at}

-- of the places of one list, behind so many of them, one is there so often
record IsRare (at : Stamp) (list before n : ℕ) : Type 0 where
  pub few : n ≤ 1
  pub elsewhere : (at.list ≡ list → ⊥) → n ≡ 0
  pub earlier : at.serial ≤ before → n ≡ 0

module _ (at : Stamp) where
  one_more : (list before n : ℕ) (l s : Bool) → (at.list == list) ≡ l → (at.serial == before + 1) ≡ s → IsRare at list (before + 1) n
      → IsRare at list before (cond (l && s) 1 0 + n)
  one_more list before n true true lists serials rare =
      let here : at.list ≡ list = grind (arith, nat_tests) in
      let it : at.serial ≡ before + 1 = grind (arith, nat_tests) in
      let none = rare.earlier (omega (arith, it)) in
      record {
        few = omega (arith, none);
        elsewhere = λ other. absurd (other here);
        earlier = λ low. absurd (omega (arith, low, it));
      }
  one_more list before n true false lists serials rare = record {
    few = omega (arith, rare.few);
    elsewhere = λ other. omega (arith, rare.elsewhere other);
    earlier = λ low. omega (arith, rare.earlier (omega (arith, low)));
  }
  one_more list before n false s lists serials rare = record {
    few = omega (arith, rare.few);
    elsewhere = λ other. omega (arith, rare.elsewhere other);
    earlier = λ low. omega (arith, rare.earlier (omega (arith, low)));
  }

  in_list : {A : Type 0} (entry : A → Option Entry) (list before : ℕ) (items : List A) → IsRare at list before (times at (places_of entry list before items))
  in_list entry list before [] = record { few = omega arith; elsewhere = λ other. refl; earlier = λ low. refl }
  in_list entry list before (item ∷ items) = by_test (in_list entry list (before + 1) items) (is_some (entry item)) where
    by_test : IsRare at list (before + 1) (times at (places_of entry list (before + 1) items)) → (b : Bool)
        → IsRare at list before (times at (if b then stamp list (before + 1) ∷ places_of entry list (before + 1) items else places_of entry list (before + 1) items))
    by_test rest true =
        let more = one_more list before (times at (places_of entry list (before + 1) items)) (at.list == list) (at.serial == before + 1) refl refl rest in
        let sum = sum_by-cons (one_at at) (stamp list (before + 1)) (places_of entry list (before + 1) items) in
        record {
          few = omega (arith, more.few, sum);
          elsewhere = λ other. omega (arith, more.elsewhere other, sum);
          earlier = λ low. omega (arith, more.earlier low, sum);
        }
    by_test rest false = record { few = rest.few; elsewhere = rest.elsewhere; earlier = λ low. rest.earlier (omega (arith, low)) }

  here_or : (list : ℕ) (l : Bool) → (at.list == list) ≡ l → (at.list ≡ list) ⊎ (at.list ≡ list → ⊥)
  here_or list true e = inl (grind (arith, nat_tests))
  here_or list false e = inr (λ same. absurd (grind (arith, nat_tests)))

  -- of one list, and of those behind it
  of_both : (list n m : ℕ) → IsRare at list 0 n → m ≤ 1 → (at.list ≤ list → m ≡ 0) → (at.list ≡ list) ⊎ (at.list ≡ list → ⊥) → n + m ≤ 1
  of_both list n m rare few lower (inl here) = omega (arith, rare.few, lower (omega (arith, here)))
  of_both list n m rare few lower (inr other) = omega (arith, few, rare.elsewhere other)

  in_mounts : (before : ℕ) (mounts : List (List MountItem))
      → (times at (own_places before mounts) ≤ 1) × (at.list ≤ before → times at (own_places before mounts) ≡ 0)
  in_mounts before [] = (omega arith, λ low. refl)
  in_mounts before (items ∷ mounts) =
      let first = in_list own_entry (before + 1) 0 items in
      let rest = in_mounts (before + 1) mounts in
      let sum = sum_by-append (one_at at) (places_of own_entry (before + 1) 0 items) (own_places (before + 1) mounts) in
      let both = of_both (before + 1) (times at (places_of own_entry (before + 1) 0 items)) (times at (own_places (before + 1) mounts)) first rest.0 rest.1
      (here_or (before + 1) (at.list == before + 1) refl) in (
        omega (arith, both, sum),
        λ low. omega (arith, sum, first.elsewhere (λ same. omega (arith, low, same)), rest.1 (omega (arith, low))),
      )

pub places_are_once : (control : List ControlLine) (mounts : List (List MountItem)) → IsEachOnce (all_places control mounts)
places_are_once control mounts at =
    let own = in_mounts at 0 mounts in
    let both = of_both at 0 (times at (places_of line_entry 0 0 control)) (times at (own_places 0 mounts)) (in_list at line_entry 0 0 control) own.0 own.1
    (here_or at 0 (at.list == 0) refl) in
    omega (arith, both, sum_by-append (one_at at) (places_of line_entry 0 0 control) (own_places 0 mounts))
