-- the parts, after one has taken the place of another
use Rattle.std.proofs.Common.{◌≡◌, inl, inr, Bool, true, false, ℕ, ◌≤◌, max, Option, Some, None, List, [], ◌∷◌, refl, ap, sym, subst, ◌∙◌, arith}
use Rattle.radio_parts_table.proofs.Words.{find, map, ◌==◌, ◌&&◌, if◌then◌else◌, option_map, option_map_or, slice_cmp, IsStrictlySortedBy, nat_cmp, bytes_eq, bytes_eq-Decides, update_first, Each_each, find_apart}
use Rattle.radio_parts_table.proofs.Words.{find_here, find_later, found_passes, unchanged, end_in, Session, session_of, GoNoFurther, end_of, none_changes, PartSwap, MountPart, AllAgree, Comes, Stays, can_replace}
use Rattle.radio_parts_table.proofs.Words.{left_for, put_for, same_source, same_name, first_true, second_true, of_mount, keeps_mount, IsInPlace, IsExchanged, IsUnfit, by_mount_of, live_in, IsNamed, AreNamed, attached_to}
use Rattle.radio_parts_table.proofs.Words.{is_part_of}
use Rattle.radio_parts_table.proofs.LiveLemmas.{its, live_none, live_some, session_found, AreRising}
use Rattle.radio_parts_table.proofs.PartAttachments.{found_attached}
use Rattle.radio_parts_table.proofs.PartLemmas.{AreWhole}

module _ (part : MountPart) where
  abbrev of : MountPart → Bool
  of = is_part_of part.mount

  abbrev pub put_in_place : List MountPart → List MountPart
  put_in_place parts = update_first of (put_for part) parts

  -- each session has still the name of its mount
  named_by : (mount : List ℕ) (mine other : Option Session) → same_source mine other ≡ true → IsNamed mount other → IsNamed mount mine
  named_by mount None other e named = tt
  named_by mount (Some mine) None e named = cc
  named_by mount (Some mine) (Some other) e named =
      same_name mine.mount other.mount (first_true (bytes_eq mine.mount other.mount) (mine.number == other.number) e) ∙ named

  named_at : (row : MountPart) (b : Bool) → can_replace part row ≡ b → IsNamed row.mount row.session
      → IsNamed (if b then part else row).mount (if b then part else row).session
  named_at row true e named =
      subst (λ m. IsNamed m part.session) (sym (of_mount part row e))
      (named_by row.mount part.session row.session (second_true (bytes_eq part.mount row.mount) (same_source part.session row.session) e) named)
  named_at row false e named = named

  named_in_place : (row : MountPart) → IsNamed row.mount row.session → IsNamed (put_for part row).mount (put_for part row).session
  named_in_place row named = named_at row (can_replace part row) refl named

  names_at : (row : MountPart) (parts : List MountPart) (b : Bool)
      → map (λ (p : MountPart). p.mount) (put_in_place parts) ≡ map (λ (p : MountPart). p.mount) parts
      → map (λ (p : MountPart). p.mount) (if b then put_for part row ∷ parts else row ∷ put_in_place parts) ≡ map (λ (p : MountPart). p.mount) (row ∷ parts)
  names_at row parts true later = ap (λ m. m ∷ map (λ (p : MountPart). p.mount) parts) (keeps_mount part row)
  names_at row parts false later = ap (λ ms. row.mount ∷ ms) later

  names_stay : (parts : List MountPart) → map (λ (p : MountPart). p.mount) (put_in_place parts) ≡ map (λ (p : MountPart). p.mount) parts
  names_stay [] = refl
  names_stay (row ∷ parts) = names_at row parts (of row) (names_stay parts)

  named_after_at : (row : MountPart) (parts : List MountPart) (b : Bool) → AreNamed (row ∷ parts) → AreNamed (put_in_place parts)
      → AreNamed (if b then put_for part row ∷ parts else row ∷ put_in_place parts)
  named_after_at row parts true named later = (named_in_place row named.0, named.1)
  named_after_at row parts false named later = (named.0, later)

  named_after : (parts : List MountPart) → AreNamed parts → AreNamed (put_in_place parts)
  named_after [] named = tt
  named_after (row ∷ parts) named = named_after_at row parts (of row) named (named_after parts named.1)

  -- the sessions, by that of the first part
  abbrev joined : Option Session → List Session → List Session
  joined None live = live
  joined (Some session) live = session ∷ live

  live_joined : (row : MountPart) (parts : List MountPart) → live_in (row ∷ parts) ≡ joined row.session (live_in parts)
  live_joined row parts = by_found row.session refl where
    by_found : (found : Option Session) → row.session ≡ found → live_in (row ∷ parts) ≡ joined found (live_in parts)
    by_found None e = live_none row parts e
    by_found (Some session) e = live_some row parts session e

  abbrev Stands : Session → Session → Type 0
  Stands = IsInPlace part.session

  all_stay : (live : List Session) → AllAgree Stands live live
  all_stay [] = tt
  all_stay (session ∷ live) = (Stays refl, all_stay live)

  first_stays : (found : Option Session) (live later : List Session) → AllAgree Stands live later → AllAgree Stands (joined found live) (joined found later)
  first_stays None live later all = all
  first_stays (Some session) live later all = (Stays refl, all)

  first_comes : (mine other : Option Session) (live : List Session) → part.session ≡ mine → same_source mine other ≡ true
      → AllAgree Stands (joined other live) (joined mine live)
  first_comes None None live is e = all_stay live
  first_comes None (Some other) live is e = cc
  first_comes (Some mine) None live is e = cc
  first_comes (Some mine) (Some other) live is e = (Comes is e, all_stay live)

  agree_at : (row : MountPart) (parts : List MountPart) (b c : Bool) → can_replace part row ≡ c → AllAgree Stands (live_in parts) (live_in (put_in_place parts))
      → AllAgree Stands (live_in (row ∷ parts)) (live_in (if b then (if c then part else row) ∷ parts else row ∷ put_in_place parts))
  agree_at row parts true true e later =
      subst (λ live. AllAgree Stands live (live_in (part ∷ parts))) (sym (live_joined row parts))
      (subst (AllAgree Stands (joined row.session (live_in parts))) (sym (live_joined part parts))
      (first_comes part.session row.session (live_in parts) refl
      (second_true (bytes_eq part.mount row.mount) (same_source part.session row.session) e)))
  agree_at row parts true false e later = all_stay (live_in (row ∷ parts))
  agree_at row parts false c e later =
      subst (λ live. AllAgree Stands live (live_in (row ∷ put_in_place parts))) (sym (live_joined row parts))
      (subst (AllAgree Stands (joined row.session (live_in parts))) (sym (live_joined row (put_in_place parts)))
      (first_stays row.session (live_in parts) (live_in (put_in_place parts)) later))

  all_agree : (parts : List MountPart) → AllAgree Stands (live_in parts) (live_in (put_in_place parts))
  all_agree [] = tt
  all_agree (row ∷ parts) = agree_at row parts (of row) (can_replace part row) refl (all_agree parts)

  -- none goes further than the furthest, and than that of the part
  module _ (most : ℕ) (reaches : end_in part.session ≤ most) where
    each_joined : (found : Option Session) (live : List Session) → end_in found ≤ most → GoNoFurther most live → GoNoFurther most (joined found live)
    each_joined None live within all = all
    each_joined (Some session) live within all = (within, all)

    rest_joined : (found : Option Session) (live : List Session) → GoNoFurther most (joined found live) → GoNoFurther most live
    rest_joined None live all = all
    rest_joined (Some session) live all = all.1

    first_joined : (found : Option Session) (live : List Session) → GoNoFurther most (joined found live) → end_in found ≤ most
    first_joined None live all = omega arith
    first_joined (Some session) live all = all.0

    far_at : (row : MountPart) (parts : List MountPart) (b c : Bool) → GoNoFurther most (joined row.session (live_in parts))
        → GoNoFurther most (live_in (put_in_place parts))
        → GoNoFurther most (live_in (if b then (if c then part else row) ∷ parts else row ∷ put_in_place parts))
    far_at row parts true true all later =
        subst (GoNoFurther most) (sym (live_joined part parts))
        (each_joined part.session (live_in parts) reaches (rest_joined row.session (live_in parts) all))
    far_at row parts true false all later = subst (GoNoFurther most) (sym (live_joined row parts)) all
    far_at row parts false c all later =
        subst (GoNoFurther most) (sym (live_joined row (put_in_place parts)))
        (each_joined row.session (live_in (put_in_place parts)) (first_joined row.session (live_in parts) all) later)

    far_after : (parts : List MountPart) → GoNoFurther most (live_in parts) → GoNoFurther most (live_in (put_in_place parts))
    far_after [] all = tt
    far_after (row ∷ parts) all =
        let joined_all = subst (GoNoFurther most) (live_joined row parts) all in
        far_at row parts (of row) (can_replace part row) joined_all (far_after parts (rest_joined row.session (live_in parts) joined_all))

  pub whole_after : (furthest end : ℕ) (parts : List MountPart) → end ≡ end_in part.session → AreWhole furthest parts
      → AreWhole (max furthest end) (put_in_place parts)
  whole_after furthest end parts is whole = (
    far_after (max furthest end) (omega (arith, is)) parts
        (Each_each (λ (x : Session). end_of x.stream ≤ furthest) (λ (x : Session). end_of x.stream ≤ max furthest end) (λ x within. omega (arith, within))
        (live_in parts) whole.0),
    named_after parts whole.1,
  )

  its_own : of part ≡ true
  its_own = (bytes_eq-Decides part.mount part.mount).1 refl

  found_at : (row x : MountPart) (parts : List MountPart) (b : Bool) → of x ≡ b → (if b then Some x else find of parts) ≡ Some row
      → can_replace part row ≡ true → (find of parts ≡ Some row → find of (put_in_place parts) ≡ Some part)
      → find of (if b then put_for part x ∷ parts else x ∷ put_in_place parts) ≡ Some part
  found_at row x parts true e found can later =
      let is : x ≡ row = cc in
      let put : put_for part x ≡ part = rw (is, can) refl in
      ap (λ p. find of (p ∷ parts)) put ∙ find_here of part parts its_own
  found_at row x parts false e found can later = find_later of x (put_in_place parts) e ∙ later found

  found_after : (row : MountPart) (parts : List MountPart) → find of parts ≡ Some row → can_replace part row ≡ true → find of (put_in_place parts) ≡ Some part
  found_after row [] found can = cc
  found_after row (x ∷ parts) found can = found_at row x parts (of x) refl found can (λ later. found_after row parts later can)

  found_beside : (other : List ℕ) (parts : List MountPart) → bytes_eq part.mount other ≡ false
      → find (is_part_of other) (put_in_place parts) ≡ find (is_part_of other) parts
  found_beside other parts apart = find_apart (is_part_of other) of (put_for part) beside parts where
    beside : (row : MountPart) → of row ≡ true → (is_part_of other row ≡ false) × (is_part_of other (put_for part row) ≡ false)
    beside row e =
        let is : row.mount ≡ part.mount = same_name row.mount part.mount e in (
          ap (λ m. bytes_eq m other) is ∙ apart,
          ap (λ m. bytes_eq m other) (keeps_mount part row ∙ is) ∙ apart,
        )

  pub is_exchanged : (row : MountPart) (furthest : ℕ) (parts : List MountPart) → AreWhole furthest parts → AreRising parts → find of parts ≡ Some row
      → can_replace part row ≡ true → IsExchanged part row (by_mount_of parts) (by_mount_of (put_in_place parts))
  is_exchanged row furthest parts whole rising found can =
      let after = put_in_place parts in
      let found_there = found_after row parts found can in
      record {
        sessions = all_agree parts;
        session = session_found part.mount after (named_after parts whole.1) (subst (IsStrictlySortedBy (slice_cmp nat_cmp)) (sym (names_stay parts)) rising) ∙ ap (its part.mount) found_there;
        attached = found_attached part.mount after ∙ ap (option_map attached_to) found_there;
        elsewhere = λ mount apart.
            found_attached mount after ∙ ap (option_map attached_to) (found_beside mount parts apart) ∙ sym (found_attached mount parts);
        mount = sym (of_mount part row can);
        was_live = sym (session_found part.mount parts whole.1 rising ∙ ap (its part.mount) found);
        was_attached = found_attached part.mount parts ∙ ap (option_map attached_to) found;
      }

  -- it has not taken its place: nothing has changed
  pub none_put : (parts : List MountPart) → option_map_or (λ (row : MountPart). can_replace part row) (find of parts) false ≡ false → put_in_place parts ≡ parts
  none_put parts = by_found (find of parts) refl where
    by_found : (found : Option MountPart) → find of parts ≡ found → option_map_or (λ (row : MountPart). can_replace part row) found false ≡ false
        → put_in_place parts ≡ parts
    by_found None e not_put = none_changes of (put_for part) parts e
    by_found (Some row) e not_put = unchanged of (put_for part) row (rw not_put refl) parts e

  -- it cannot take it if nobody feeds it, or another than who feeds the mount
  unfit_for : (mine : Option Session) (parts : List MountPart) (found : Option MountPart) → part.session ≡ mine → find of parts ≡ found
      → session_of (live_in parts) part.mount ≡ its part.mount found
      → option_map_or (λ (row : MountPart). can_replace part row) found false ≡ false → IsUnfit part (live_in parts)
  unfit_for None parts found is e there not_put = inl is
  unfit_for (Some session) parts None is e there not_put = inr (rw (is, there) refl)
  unfit_for (Some session) parts (Some row) is e there not_put =
      inr (ap (same_source part.session) there ∙ other_source (bytes_eq part.mount row.mount) refl) where
        other_source : (same : Bool) → bytes_eq part.mount row.mount ≡ same → same_source part.session row.session ≡ false
        other_source true here = sym (ap (λ (same : Bool). same && same_source part.session row.session) here) ∙ not_put
        other_source false here =
            let name : row.mount ≡ part.mount = same_name row.mount part.mount (found_passes of parts row e) in
            let no : false ≡ true = sym here ∙ (bytes_eq-Decides part.mount row.mount).1 (sym name) in cc

  -- what the swap says: whether the part was put, and what is out
  abbrev swapped : Option MountPart → PartSwap
  swapped found =
      option_map_or (λ (row : MountPart). record { part = left_for part row; is_put = can_replace part row }) found (record { part = part; is_put = false })

  is_put : (found : Option MountPart) → (swapped found).is_put ≡ option_map_or (λ (row : MountPart). can_replace part row) found false
  is_put None = refl
  is_put (Some row) = refl

  is_back : (found : Option MountPart) → (swapped found).is_put ≡ false → (swapped found).part ≡ part
  is_back None e = refl
  is_back (Some row) e = rw e refl

  pub was_put : (furthest : ℕ) (parts : List MountPart) (swap : PartSwap) → AreWhole furthest parts → AreRising parts → swap ≡ swapped (find of parts)
      → swap.is_put ≡ true → IsExchanged part swap.part (by_mount_of parts) (by_mount_of (put_in_place parts))
  was_put furthest parts swap whole rising is put = by_found (find of parts) refl is where
    by_found : (found : Option MountPart) → find of parts ≡ found → swap ≡ swapped found
        → IsExchanged part swap.part (by_mount_of parts) (by_mount_of (put_in_place parts))
    by_found None e so = let no : swap.is_put ≡ false = ap (λ (s : PartSwap). s.is_put) so in cc
    by_found (Some row) e so =
        let can : can_replace part row ≡ true = sym (ap (λ (s : PartSwap). s.is_put) so) ∙ put in
        let out : swap.part ≡ row = ap (λ (s : PartSwap). s.part) so ∙ rw can refl in
        subst (λ there. IsExchanged part there (by_mount_of parts) (by_mount_of (put_in_place parts))) (sym out) (is_exchanged row furthest parts whole rising e can)

  pub was_unfit : (furthest : ℕ) (parts : List MountPart) (swap : PartSwap) → AreWhole furthest parts → AreRising parts → swap ≡ swapped (find of parts)
      → swap.is_put ≡ false → IsUnfit part (live_in parts)
  was_unfit furthest parts swap whole rising is e =
      unfit_for part.session parts (find of parts) refl refl (session_found part.mount parts whole.1 rising)
      (sym (is_put (find of parts)) ∙ sym (ap (λ (s : PartSwap). s.is_put) is) ∙ e)

  pub was_not_put : (parts : List MountPart) (swap : PartSwap) → swap ≡ swapped (find of parts) → swap.is_put ≡ false
      → (put_in_place parts ≡ parts) × (swap.part ≡ part)
  was_not_put parts swap is e =
      let none : (swapped (find of parts)).is_put ≡ false = sym (ap (λ (s : PartSwap). s.is_put) is) ∙ e in (
        none_put parts (sym (is_put (find of parts)) ∙ none),
        ap (λ (s : PartSwap). s.part) is ∙ is_back (find of parts) none,
      )
