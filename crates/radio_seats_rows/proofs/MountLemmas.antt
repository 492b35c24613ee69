-- prepared mounts: what is found of them after each change
use Rattle.std.proofs.Common.{◌≡◌, Bool, true, false, ℕ, ◌+◌, ◌<◌, ◌==◌, ◌||◌, Option, Some, None, List, [], ◌∷◌, not, refl, ap, sym, ◌∙◌, arith}
use Rattle.std.specs.Prelude.{◌&&◌, find, filter, map, is_some, if◌then◌else◌}
use Rattle.std.specs.Option.{option_map}
use Rattle.std.specs.Ordering.{nat_cmp}
use Rattle.std.specs.Cmp.Lexicographic.{slice_cmp}
use Rattle.std.specs.Str.{bytes_eq}
use Rattle.std.proofs.lemmas.Bool.{eqb-true}
use Rattle.std.proofs.lemmas.Bool.Decides.{nat_tests}
use Rattle.std.proofs.lemmas.Cmp.{nat_cmp_total, nat_list_cmp_total}
use Rattle.std.proofs.lemmas.Slice.Eq.{bytes_eq-Decides}
use Rattle.radio_values.specs.MountName.{is_mount_name}
use Rattle.radio_tables.specs.Lists.{placed}
use Rattle.radio_tables.proofs.FindLaws.{find_removed, find_others, found_passes}
use Rattle.radio_tables.proofs.KeyLaws.{by_number, by_name, number_is, name_is, find_placed}
use Rattle.radio_seats_rows.specs.declared.mounts.Mount.{Mount}
use Rattle.radio_seats_rows.specs.declared.mounts.NumberedName.{NumberedName}
use Rattle.radio_seats_rows.specs.SeatTable.{is_prepared}
use Rattle.radio_seats_rows.proofs.Lists.{same_number, placed_removed, none_removed}
use Rattle.radio_seats_rows.specs.Mounts.{is_numbered, is_named, name_of, name_in, naming_of, naming_in, is_number, AreMounts}

-- the empty name is no mount's
pub no_empty_name : (name : List ℕ) → is_mount_name name ≡ true → bytes_eq [] name ≡ false
unfolding is_mount_name
no_empty_name [] e = cc
no_empty_name (b ∷ name) e = refl

same_name : (name : List ℕ) → bytes_eq name name ≡ true
same_name name = (bytes_eq-Decides name name).1 refl

turned : (a b : ℕ) → (a == b) ≡ false → (b == a) ≡ false
turned a b e = grind (arith, nat_tests)

abbrev pub entry_name : NumberedName → List ℕ
entry_name entry = entry.name

-- a mount was prepared where its name is found
prepared_at : (name : List ℕ) (entry : NumberedName) (entries : List NumberedName) (b : Bool)
    → is_prepared (map entry_name entries) name ≡ is_some (find (is_named name) entries)
    → (b || is_prepared (map entry_name entries) name) ≡ is_some (if b then Some entry else find (is_named name) entries)
prepared_at name entry entries true later = refl
prepared_at name entry entries false later = later

pub prepared_found : (name : List ℕ) (entries : List NumberedName) → is_prepared (map entry_name entries) name ≡ is_some (find (is_named name) entries)
prepared_found name [] = refl
prepared_found name (entry ∷ entries) = prepared_at name entry entries (is_named name entry) (prepared_found name entries)

-- the entry of a name bears it, and the mount of a number has it
found_name : (entries : List NumberedName) (name : List ℕ) (entry : NumberedName) → find (is_named name) entries ≡ Some entry → entry.name ≡ name
found_name entries name entry e = (bytes_eq-Decides entry.name name).0 (found_passes (is_named name) entries entry e)

found_number : (mounts : List Mount) (k : ℕ) (mount : Mount) → find (is_numbered k) mounts ≡ Some mount → mount.number ≡ k
found_number mounts k mount e = eqb-true mount.number k (found_passes (is_numbered k) mounts mount e)

-- who looks for a name finds its number, and under no other number the name
module _ (names : List NumberedName) (mounts : List Mount) (last : ℕ) (are : AreMounts names mounts last) (name : List ℕ)
    (is : is_mount_name name ≡ true) where
  abbrev pub found_under : Option NumberedName → Option ℕ
  found_under entry = option_map (λ (e : NumberedName). e.number) entry

  only_by : (k : ℕ) (entry : Option NumberedName) (mount : Option Mount) → find (is_named name) names ≡ entry → find (is_numbered k) mounts ≡ mount
      → bytes_eq (name_of mount) name ≡ is_number (found_under entry) k
  only_by k None None e m = no_empty_name name is
  only_by k None (Some mount) e m =
      by_name mount.name name
      (λ same.
      let found : find (is_named name) names ≡ Some (record { name = mount.name; number = k })
      = ap (λ n. find (is_named n) names) (sym same) ∙ are.by_number k mount m in
      cc)
      (λ other. other)
  only_by k (Some entry) None e m =
      by_number k entry.number
      (λ same.
      let there = are.by_name name entry e in
      let found : find (is_numbered k) mounts ≡ Some there.0 = ap (λ n. find (is_numbered n) mounts) same ∙ there.1 in
      cc)
      (λ other. no_empty_name name is ∙ sym other)
  only_by k (Some entry) (Some mount) e m =
      by_name mount.name name
      (λ same.
      let found : find (is_named name) names ≡ Some (record { name = mount.name; number = k })
      = ap (λ n. find (is_named n) names) (sym same) ∙ are.by_number k mount m in
      let one : entry ≡ record { name = mount.name; number = k } = cc in
      (bytes_eq-Decides mount.name name).1 same ∙ sym (ap (λ (x : NumberedName). k == x.number) one ∙ same_number k))
      (λ other.
      other
      ∙ sym (by_number k entry.number
      (λ same.
      let there = are.by_name name entry e in
      let found : find (is_numbered k) mounts ≡ Some there.0 = ap (λ n. find (is_numbered n) mounts) same ∙ there.1 in
      let one : mount ≡ there.0 = cc in
      let named : bytes_eq mount.name name ≡ true = (bytes_eq-Decides mount.name name).1 (ap (λ (x : Mount). x.name) one ∙ there.2) in
      cc)
      (λ apart. apart)))

  pub only_number : (number : Option ℕ) → number ≡ found_under (find (is_named name) names) → (k : ℕ)
      → bytes_eq (name_in mounts k) name ≡ is_number number k
  only_number number same k =
      only_by k (find (is_named name) names) (find (is_numbered k) mounts) refl refl ∙ ap (λ (x : Option ℕ). is_number x k) (sym same)

-- a name that goes, with its number
module _ (names : List NumberedName) (mounts : List Mount) (last : ℕ) (are : AreMounts names mounts last) (name : List ℕ) (gone : NumberedName)
    (found : find (is_named name) names ≡ Some gone) where
  abbrev pub names_left : List NumberedName
  names_left = filter (λ entry. not (is_named name entry)) names

  abbrev pub mounts_left : List Mount
  mounts_left = filter (λ mount. not (is_numbered gone.number mount)) mounts

  name_goes : find (is_named name) names_left ≡ None
  name_goes = find_removed (is_named name) (is_named name) names

  number_goes : find (is_numbered gone.number) mounts_left ≡ None
  number_goes = find_removed (is_numbered gone.number) (is_numbered gone.number) mounts

  name_stays : (other : List ℕ) → bytes_eq name other ≡ false → find (is_named other) names_left ≡ find (is_named other) names
  name_stays other apart =
      find_others (is_named other) (is_named name)
      (λ entry e. ap (λ n. bytes_eq n other) ((bytes_eq-Decides entry.name name).0 e) ∙ apart) names

  number_stays : (k : ℕ) → (gone.number == k) ≡ false → find (is_numbered k) mounts_left ≡ find (is_numbered k) mounts
  number_stays k apart =
      find_others (is_numbered k) (is_numbered gone.number) (λ mount e. ap (λ n. n == k) (eqb-true mount.number gone.number e) ∙ apart) mounts

  pub left_mounts : AreMounts names_left mounts_left last
  left_mounts = record {
    by_number = λ k mount e. by_number gone.number k
        (λ same. let none : find (is_numbered k) mounts_left ≡ None = ap (λ n. find (is_numbered n) mounts_left) (sym same) ∙ number_goes in cc)
        (λ apart.
        let old = are.by_number k mount (sym (number_stays k apart) ∙ e) in
        by_name name mount.name
        (λ same.
        let one : Some gone ≡ Some (record { name = mount.name; number = k }) = sym found ∙ ap (λ n. find (is_named n) names) same ∙ old in
        let number : gone.number ≡ k = cc in
        let yes_so : (gone.number == k) ≡ true = ap (λ n. n == k) number ∙ same_number k in
        cc)
        (λ away. name_stays mount.name away ∙ old));
    by_name = λ other entry e. by_name name other
        (λ same. let none : find (is_named other) names_left ≡ None = ap (λ n. find (is_named n) names_left) (sym same) ∙ name_goes in cc)
        (λ apart.
        let there = are.by_name other entry (sym (name_stays other apart) ∙ e) in
        by_number gone.number entry.number
        (λ same.
        let his = are.by_name name gone found in
        let one : Some his.0 ≡ Some there.0 = sym his.1 ∙ ap (λ n. find (is_numbered n) mounts) same ∙ there.1 in
        let mount : his.0 ≡ there.0 = cc in
        let alike : name ≡ other = sym his.2 ∙ ap (λ (x : Mount). x.name) mount ∙ there.2 in
        let yes_so : bytes_eq name other ≡ true = (bytes_eq-Decides name other).1 alike in
        cc)
        (λ away. (there.0, number_stays entry.number away ∙ there.1, there.2)));
    free = λ k above. by_number gone.number k
        (λ same. ap (λ n. find (is_numbered n) mounts_left) (sym same) ∙ number_goes)
        (λ apart. number_stays k apart ∙ are.free k above);
  }

  pub prepared_left : (other : List ℕ) → is_prepared (map entry_name names_left) other ≡ (is_prepared (map entry_name names) other && not (bytes_eq name other))
  prepared_left other = by_name name other
      (λ same.
      let gone_now : is_prepared (map entry_name names_left) other ≡ false
      = prepared_found other names_left ∙ ap is_some (ap (λ n. find (is_named n) names_left) (sym same) ∙ name_goes) in
      let test : bytes_eq name other ≡ true = (bytes_eq-Decides name other).1 same in
      gone_now ∙ sym (rw test (and_false (is_prepared (map entry_name names) other))))
      (λ apart.
      prepared_found other names_left ∙ ap is_some (name_stays other apart) ∙ sym (prepared_found other names)
      ∙ sym (rw apart (and_true (is_prepared (map entry_name names) other)))) where
        and_false : (b : Bool) → (b && false) ≡ false
        and_false true = refl
        and_false false = refl

        and_true : (b : Bool) → (b && true) ≡ b
        and_true true = refl
        and_true false = refl

  -- where it counted none
  module _ (count : Option Mount → ℕ) (none : count None ≡ 0)
      (nobody : (k : ℕ) → bytes_eq (name_in mounts k) name ≡ true → count (find (is_numbered k) mounts) ≡ 0) where
    abbrev counted : ℕ → ℕ
    counted k = count (find (is_numbered k) mounts)

    nobody_there : counted gone.number ≡ 0
    nobody_there =
        let there = are.by_name name gone found in
        nobody gone.number ((bytes_eq-Decides (name_in mounts gone.number) name).1 (ap name_of there.1 ∙ there.2))

    pub count_left : (k : ℕ) → count (find (is_numbered k) mounts_left) ≡ count (find (is_numbered k) mounts)
    count_left k = by_number gone.number k
        (λ same. ap (λ n. count (find (is_numbered n) mounts_left)) (sym same) ∙ ap count number_goes ∙ none ∙ sym (ap counted (sym same) ∙ nobody_there))
        (λ apart. ap count (number_stays k apart))

    pub named_left : (k : ℕ) → 0 < count (find (is_numbered k) mounts) → name_in mounts_left k ≡ name_in mounts k
    named_left k some = by_number gone.number k
        (λ same. let before : counted k ≡ 0 = ap counted (sym same) ∙ nobody_there in absurd (omega (arith, some, before)))
        (λ apart. ap name_of (number_stays k apart))

-- a name that has gone nowhere
pub prepared_no_less : (names : List NumberedName) (name other : List ℕ) → find (is_named name) names ≡ None
    → is_prepared (map entry_name names) other ≡ (is_prepared (map entry_name names) other && not (bytes_eq name other))
prepared_no_less names name other none = by_name name other
    (λ same.
    let never : is_prepared (map entry_name names) other ≡ false
    = prepared_found other names ∙ ap is_some (ap (λ n. find (is_named n) names) (sym same) ∙ none) in
    rw never refl)
    (λ apart. sym (rw apart (and_true (is_prepared (map entry_name names) other)))) where
      and_true : (b : Bool) → (b && true) ≡ b
      and_true true = refl
      and_true false = refl

-- a name that comes, under a number that is free
module _ (names : List NumberedName) (mounts : List Mount) (last : ℕ) (are : AreMounts names mounts last) (name : List ℕ) (number : ℕ)
    (new_name : find (is_named name) names ≡ None) (next : number ≡ last + 1) where
  abbrev pub entry : NumberedName
  entry = record { name = name; number = number }

  abbrev pub mount : Mount
  mount = record { number = number; name = name; sitting = 0; naming = 0 }

  abbrev pub names_then : List NumberedName
  names_then = placed (λ (a b : NumberedName). slice_cmp nat_cmp a.name b.name) entry names

  abbrev pub mounts_then : List Mount
  mounts_then = placed (λ (a b : Mount). nat_cmp a.number b.number) mount mounts

  name_then : (other : List ℕ) → find (is_named other) names_then ≡ (if bytes_eq name other then Some entry else find (is_named other) names)
  name_then other =
      find_placed (slice_cmp nat_cmp) nat_list_cmp_total (λ (x : NumberedName). x.name) is_named (λ n x. name_is n x.name) other entry names

  number_then : (k : ℕ) → find (is_numbered k) mounts_then ≡ (if number == k then Some mount else find (is_numbered k) mounts)
  number_then k = find_placed nat_cmp nat_cmp_total (λ (x : Mount). x.number) is_numbered (λ n x. number_is n x.number) k mount mounts

  free_number : find (is_numbered number) mounts ≡ None
  free_number = are.free number (omega (arith, next))

  here_then : (k : ℕ) → number ≡ k → find (is_numbered k) mounts_then ≡ Some mount
  here_then k same = number_then k ∙ rw (ap (λ n. n == k) same ∙ same_number k) refl

  there_then : (k : ℕ) → (number == k) ≡ false → find (is_numbered k) mounts_then ≡ find (is_numbered k) mounts
  there_then k apart = number_then k ∙ rw apart refl

  his_then : (other : List ℕ) → name ≡ other → find (is_named other) names_then ≡ Some entry
  his_then other same = name_then other ∙ rw ((bytes_eq-Decides name other).1 same) refl

  others_then : (other : List ℕ) → bytes_eq name other ≡ false → find (is_named other) names_then ≡ find (is_named other) names
  others_then other apart = name_then other ∙ rw apart refl

  pub more_mounts : AreMounts names_then mounts_then number
  more_mounts = record {
    by_number = λ k m e. by_number number k
        (λ same.
        let one : Some m ≡ Some mount = sym e ∙ here_then k same in
        let bears : m.name ≡ name = cc in
        his_then m.name (sym bears)
        ∙ ap (λ (x : NumberedName). Some x) (ap (λ n. record { name = n; number = number }) (sym bears) ∙ ap (λ n. record { name = m.name; number = n }) same))
        (λ apart.
        let old = are.by_number k m (sym (there_then k apart) ∙ e) in
        by_name name m.name
        (λ same. let found : find (is_named name) names ≡ Some (record { name = m.name; number = k })
        = ap (λ n. find (is_named n) names) same ∙ old in cc)
        (λ away. others_then m.name away ∙ old));
    by_name = λ other x e. by_name name other
        (λ same.
        let one : Some x ≡ Some entry = sym e ∙ his_then other same in
        let numbered : number ≡ x.number = cc in
        (mount, here_then x.number numbered, same))
        (λ apart.
        let there = are.by_name other x (sym (others_then other apart) ∙ e) in
        by_number number x.number
        (λ same.
        let found : find (is_numbered number) mounts ≡ Some there.0 = ap (λ n. find (is_numbered n) mounts) same ∙ there.1 in
        let none : None ≡ Some there.0 = sym free_number ∙ found in
        cc)
        (λ away. (there.0, there_then x.number away ∙ there.1, there.2)));
    free = λ k above.
        let apart : (number == k) ≡ false = below number k above in
        there_then k apart ∙ are.free k (omega (arith, next, above));
  } where
    below : (a b : ℕ) → a < b → (a == b) ≡ false
    below a b h = grind (arith, nat_tests)

  pub prepared_then : (other : List ℕ) → is_prepared (map entry_name names_then) other ≡ (is_prepared (map entry_name names) other || bytes_eq name other)
  prepared_then other = by_name name other
      (λ same.
      let now : is_prepared (map entry_name names_then) other ≡ true = prepared_found other names_then ∙ ap is_some (his_then other same) in
      let test : bytes_eq name other ≡ true = (bytes_eq-Decides name other).1 same in
      now ∙ sym (rw test (or_true (is_prepared (map entry_name names) other))))
      (λ apart.
      prepared_found other names_then ∙ ap is_some (others_then other apart) ∙ sym (prepared_found other names)
      ∙ sym (rw apart (or_false (is_prepared (map entry_name names) other)))) where
        or_true : (b : Bool) → (b || true) ≡ true
        or_true true = refl
        or_true false = refl

        or_false : (b : Bool) → (b || false) ≡ b
        or_false true = refl
        or_false false = refl

  -- it counts as many as one that is not there
  pub count_then : (count : Option Mount → ℕ) → count (Some mount) ≡ count None → (k : ℕ)
      → count (find (is_numbered k) mounts_then) ≡ count (find (is_numbered k) mounts)
  count_then count none k = by_number number k
      (λ same. ap count (here_then k same) ∙ none ∙ sym (ap (λ n. count (find (is_numbered n) mounts)) (sym same) ∙ ap count free_number))
      (λ apart. ap count (there_then k apart))

  pub name_in_then : (k : ℕ) → 0 < naming_in mounts k → name_in mounts_then k ≡ name_in mounts k
  name_in_then k some = by_number number k
      (λ same.
      let none : naming_in mounts k ≡ 0 = ap (naming_in mounts) (sym same) ∙ ap naming_of free_number in absurd (omega (arith, some, none)))
      (λ apart. ap name_of (there_then k apart))

  -- taken back, nothing has changed
  pub taken_back : filter (λ x. not (is_numbered number x)) mounts_then ≡ mounts
  taken_back =
      placed_removed (λ (x : Mount). x.number) mount mounts ∙ none_removed (is_numbered number) mounts free_number

-- of a name that was prepared nothing changes
pub prepared_still : (names : List (List ℕ)) (name other : List ℕ) → is_prepared names name ≡ true
    → is_prepared names other ≡ (is_prepared names other || bytes_eq name other)
prepared_still names name other was = by_name name other
    (λ same. let before : is_prepared names other ≡ true = ap (is_prepared names) (sym same) ∙ was in rw before refl)
    (λ apart. sym (rw apart (or_false (is_prepared names other)))) where
      or_false : (b : Bool) → (b || false) ≡ b
      or_false true = refl
      or_false false = refl

-- and one that was not is not found
pub not_prepared : (names : List NumberedName) (name : List ℕ) → is_prepared (map entry_name names) name ≡ false → find (is_named name) names ≡ None
not_prepared names name none = by_found (find (is_named name) names) (sym (prepared_found name names) ∙ none) where
  by_found : (entry : Option NumberedName) → is_some entry ≡ false → entry ≡ None
  by_found None e = refl
  by_found (Some entry) e = cc
