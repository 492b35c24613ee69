-- who is attached where, after a mount has come or gone, a listener was attached, or others were detached
use Rattle.std.proofs.Common.{◌≡◌, Bool, true, false, ℕ, ◌==◌, Option, Some, None, List, [], ◌∷◌, length, not, inl, inr, refl, ap, sym, subst, ◌∙◌}
use Rattle.radio_parts_table.proofs.Words.{find, filter, is_some, ◌||◌, if◌then◌else◌, slice_cmp, option_map, nat_cmp, bytes_eq, eqb-true, nat_list_cmp_total, bytes_eq-Decides, update_first, placed, find_apart}
use Rattle.radio_parts_table.proofs.Words.{find_here, find_later, find_others, find_removed, find_placed, name_is, Attachment, is_attached, at_place, Listener, sits_at, OthersStay, IsAt, GoesOver, has_part}
use Rattle.radio_parts_table.proofs.Words.{MountAttachments, is_of_mount, found_in, places_in, with_boxed, advanced_there, with_sitters}
use Rattle.radio_parts_table.proofs.ByMountLemmas.{changed_here, changed_there, stays_so, put_there, with_alike, not_his}

abbrev place_in : Option Attachment → Option ℕ
place_in found = option_map (λ (row : Attachment). row.place) found

-- a mount more, where nobody is attached
module _ (mount : List ℕ) (rows : List MountAttachments) where
  abbrev fresh : MountAttachments
  fresh = record { mount = mount; attachments = [] }

  abbrev pub with_mount : List MountAttachments
  with_mount = placed (λ (a b : MountAttachments). slice_cmp nat_cmp a.mount b.mount) fresh rows

  found_now : (other : List ℕ) → find (is_of_mount other) with_mount ≡ (if bytes_eq mount other then Some fresh else find (is_of_mount other) rows)
  found_now other =
      find_placed (slice_cmp nat_cmp) nat_list_cmp_total (λ (row : MountAttachments). row.mount) is_of_mount
      (λ k row. name_is k row.mount) other fresh rows

  part_at : (b : Bool) (found : Option MountAttachments) → is_some (if b then Some fresh else found) ≡ (is_some found || b)
  part_at true None = refl
  part_at true (Some row) = refl
  part_at false None = refl
  part_at false (Some row) = refl

  pub part_more : (other : List ℕ) → has_part with_mount other ≡ (has_part rows other || bytes_eq mount other)
  part_more other = ap (λ (found : Option MountAttachments). is_some found) (found_now other) ∙ part_at (bytes_eq mount other) (find (is_of_mount other) rows)

  none_more : (id : ℕ) (other : List ℕ) → find (is_of_mount mount) rows ≡ None → (b : Bool) → bytes_eq mount other ≡ b
      → place_in (found_in id (if b then Some fresh else find (is_of_mount other) rows)) ≡ places_in rows other id
  none_more id other none true e =
      let is : mount ≡ other = (bytes_eq-Decides mount other).0 e in
      sym (ap (λ (m : List ℕ). place_in (found_in id (find (is_of_mount m) rows))) (sym is) ∙ ap (λ (found : Option MountAttachments). place_in (found_in id found)) none)
  none_more id other none false e = refl

  pub places_prepared : find (is_of_mount mount) rows ≡ None → (other : List ℕ) (id : ℕ) → places_in with_mount other id ≡ places_in rows other id
  places_prepared none other id =
      ap (λ (found : Option MountAttachments). place_in (found_in id found)) (found_now other) ∙ none_more id other none (bytes_eq mount other) refl

-- it was there already
pub part_same : (mount : List ℕ) (rows : List MountAttachments) → has_part rows mount ≡ true → (other : List ℕ)
    → has_part rows other ≡ (has_part rows other || bytes_eq mount other)
part_same mount rows has other = by_mount (bytes_eq mount other) refl where
  or_false : (b : Bool) → b ≡ (b || false)
  or_false true = refl
  or_false false = refl

  or_true : (b : Bool) → b ≡ true → b ≡ (b || true)
  or_true true e = refl
  or_true false e = cc

  by_mount : (b : Bool) → bytes_eq mount other ≡ b → has_part rows other ≡ (has_part rows other || b)
  by_mount true e =
      let is : mount ≡ other = (bytes_eq-Decides mount other).0 e in or_true (has_part rows other) (ap (has_part rows) (sym is) ∙ has)
  by_mount false e = or_false (has_part rows other)

-- a mount less, where nobody was attached
module _ (mount : List ℕ) (rows : List MountAttachments) where
  abbrev pub without_mount : List MountAttachments
  without_mount = filter (λ (row : MountAttachments). not (is_of_mount mount row)) rows

  found_still : (other : List ℕ) → bytes_eq mount other ≡ false → find (is_of_mount other) without_mount ≡ find (is_of_mount other) rows
  found_still other apart = find_others (is_of_mount other) (is_of_mount mount) other_row rows where
    other_row : (row : MountAttachments) → is_of_mount mount row ≡ true → is_of_mount other row ≡ false
    other_row row e = ap (λ m. bytes_eq m other) ((bytes_eq-Decides row.mount mount).0 e) ∙ apart

  pub part_left : (other : List ℕ) → bytes_eq mount other ≡ false → has_part without_mount other ≡ has_part rows other
  part_left other apart = ap (λ (found : Option MountAttachments). is_some found) (found_still other apart)

  empty : (xs : List Attachment) → (length xs == 0) ≡ true → xs ≡ []
  empty [] e = refl
  empty (x ∷ xs) e = let none : length (x ∷ xs) ≡ 0 = eqb-true (length (x ∷ xs)) 0 e in cc

  pub places_released : (row : MountAttachments) → find (is_of_mount mount) rows ≡ Some row → (length row.attachments == 0) ≡ true
      → (other : List ℕ) (id : ℕ) → places_in without_mount other id ≡ places_in rows other id
  places_released row found none other id = by_mount (bytes_eq mount other) refl where
    by_mount : (b : Bool) → bytes_eq mount other ≡ b → places_in without_mount other id ≡ places_in rows other id
    by_mount true e =
        let is : mount ≡ other = (bytes_eq-Decides mount other).0 e in
        subst (λ (m : List ℕ). places_in without_mount m id ≡ places_in rows m id) is
        (ap (λ (x : Option MountAttachments). place_in (found_in id x)) (find_removed (is_of_mount mount) (is_of_mount mount) rows)
        ∙ sym (ap (λ (x : Option MountAttachments). place_in (found_in id x)) found ∙ ap (λ xs. place_in (find (is_attached id) xs)) (empty row.attachments none)))
    by_mount false e = ap (λ (x : Option MountAttachments). place_in (found_in id x)) (found_still other e)

-- a listener is attached
module _ (mount : List ℕ) (boxed : Attachment) (rows : List MountAttachments) where
  abbrev pub attached_there : List MountAttachments
  attached_there = update_first (is_of_mount mount) (with_boxed (Some boxed)) rows

  its_own : is_attached boxed.id boxed ≡ true
  its_own = Rattle.radio_seats_rows.proofs.Lists.same_number boxed.id

  pub attached_others : OthersStay (places_in rows) (places_in attached_there) boxed.id
  attached_others at other apart =
      stays_so mount (with_boxed (Some boxed)) (λ x. refl) other (with_alike boxed.id other apart (Some boxed) its_own) rows at

  at_part : (found : Option MountAttachments) → is_some found ≡ true → place_in (found_in boxed.id (option_map (with_boxed (Some boxed)) found)) ≡ Some boxed.place
  at_part None has = cc
  at_part (Some row) has = ap place_in (put_there boxed boxed.id its_own row.attachments)

  pub attached_at : has_part rows mount ≡ true → places_in attached_there mount boxed.id ≡ Some boxed.place
  attached_at has =
      ap (λ (found : Option MountAttachments). place_in (found_in boxed.id found)) (changed_here mount (with_boxed (Some boxed)) (λ x. refl) rows)
      ∙ at_part (find (is_of_mount mount) rows) has

  pub attached_elsewhere : (other : List ℕ) → bytes_eq mount other ≡ false → places_in attached_there other boxed.id ≡ places_in rows other boxed.id
  attached_elsewhere other apart =
      ap (λ (found : Option MountAttachments). place_in (found_in boxed.id found)) (changed_there mount (with_boxed (Some boxed)) (λ x. refl) other apart rows)

-- those alone stay attached who sit there
module _ (seats : List Listener) (mount : List ℕ) where
  abbrev stays : Attachment → Bool
  stays row = not (not (sits_at seats row.id mount))

  sitter_at : (id : ℕ) (row : Attachment) (xs : List Attachment) (b : Bool) → is_attached id row ≡ b → (c : Bool) → sits_at seats row.id mount ≡ c
      → find (is_attached id) (filter stays xs) ≡ (if sits_at seats id mount then find (is_attached id) xs else None)
      → find (is_attached id) (if not (not c) then row ∷ filter stays xs else filter stays xs)
      ≡ (if sits_at seats id mount then find (is_attached id) (row ∷ xs) else None)
  sitter_at id row xs true e true sits later =
      let here : sits_at seats id mount ≡ true = ap (λ n. sits_at seats n mount) (sym (eqb-true row.id id e)) ∙ sits in
      find_here (is_attached id) row (filter stays xs) e ∙ sym (rw here (find_here (is_attached id) row xs e))
  sitter_at id row xs true e false sits later =
      let here : sits_at seats id mount ≡ false = ap (λ n. sits_at seats n mount) (sym (eqb-true row.id id e)) ∙ sits in
      later ∙ rw here refl
  sitter_at id row xs false e true sits later =
      find_later (is_attached id) row (filter stays xs) e ∙ later
      ∙ ap (λ found. if sits_at seats id mount then found else None) (sym (find_later (is_attached id) row xs e))
  sitter_at id row xs false e false sits later =
      later ∙ ap (λ found. if sits_at seats id mount then found else None) (sym (find_later (is_attached id) row xs e))

  abbrev nobody : Option Attachment
  nobody = None

  none_there : (b : Bool) → nobody ≡ (if b then nobody else nobody)
  none_there true = refl
  none_there false = refl

  abbrev no_place : Option ℕ
  no_place = None

  none_heard : (b : Bool) → no_place ≡ (if b then no_place else no_place)
  none_heard true = refl
  none_heard false = refl

  sitters : (id : ℕ) (xs : List Attachment) → find (is_attached id) (filter stays xs) ≡ (if sits_at seats id mount then find (is_attached id) xs else None)
  sitters id [] = none_there (sits_at seats id mount)
  sitters id (row ∷ xs) = sitter_at id row xs (is_attached id row) refl (sits_at seats row.id mount) refl (sitters id xs)

  place_if : (b : Bool) (found : Option Attachment) → place_in (if b then found else None) ≡ (if b then place_in found else None)
  place_if true found = refl
  place_if false found = refl

  module _ (rows : List MountAttachments) where
    abbrev pub left_there : List MountAttachments
    left_there = update_first (is_of_mount mount) (with_sitters seats mount) rows

    by_part : (id : ℕ) (found : Option MountAttachments) → place_in (found_in id (option_map (with_sitters seats mount) found))
        ≡ (if sits_at seats id mount then place_in (found_in id found) else None)
    by_part id None = none_heard (sits_at seats id mount)
    by_part id (Some row) = ap place_in (sitters id row.attachments) ∙ place_if (sits_at seats id mount) (find (is_attached id) row.attachments)

    pub left_at : (id : ℕ) → places_in left_there mount id ≡ (if sits_at seats id mount then places_in rows mount id else None)
    left_at id =
        ap (λ (found : Option MountAttachments). place_in (found_in id found)) (changed_here mount (with_sitters seats mount) (λ x. refl) rows)
        ∙ by_part id (find (is_of_mount mount) rows)

    pub left_elsewhere : (other : List ℕ) (id : ℕ) → bytes_eq mount other ≡ false → places_in left_there other id ≡ places_in rows other id
    left_elsewhere other id apart =
        ap (λ (found : Option MountAttachments). place_in (found_in id found)) (changed_there mount (with_sitters seats mount) (λ x. refl) other apart rows)

pub no_part : (found : Option MountAttachments) → is_some found ≡ false → found ≡ None
no_part None e = refl
no_part (Some row) e = cc

-- a listener has heard more where it is attached
module _ (id place : ℕ) (mount : List ℕ) (mounts : List MountAttachments) where
  abbrev pub advanced_in : List MountAttachments
  advanced_in = update_first (is_of_mount mount) (advanced_there id place) mounts

  pub advanced_others : OthersStay (places_in mounts) (places_in advanced_in) id
  advanced_others at other apart = stays_so mount (advanced_there id place) (λ x. refl) other alike mounts at where
    alike : (x : MountAttachments) → found_in other (Some (advanced_there id place x)) ≡ found_in other (Some x)
    alike x =
        find_apart (is_attached other) (is_attached id) (at_place place) (λ row e. (not_his id other apart row e, not_his id other apart row e)) x.attachments

  abbrev place_of : Option MountAttachments → Option ℕ
  place_of found = option_map (λ (row : Attachment). row.place) (found_in id found)

  advanced_at : (row : Attachment) (rows : List Attachment) (b : Bool) → is_attached id row ≡ b
      → place_in (find (is_attached id) (update_first (is_attached id) (at_place place) rows)) ≡ option_map (λ (a : Attachment). place) (find (is_attached id) rows)
      → place_in (find (is_attached id) (if b then at_place place row ∷ rows else row ∷ update_first (is_attached id) (at_place place) rows))
      ≡ option_map (λ (a : Attachment). place) (if b then Some row else find (is_attached id) rows)
  advanced_at row rows true e later = ap place_in (find_here (is_attached id) (at_place place row) rows e)
  advanced_at row rows false e later = ap place_in (find_later (is_attached id) row (update_first (is_attached id) (at_place place) rows) e) ∙ later

  advanced_among : (rows : List Attachment)
      → place_in (find (is_attached id) (update_first (is_attached id) (at_place place) rows)) ≡ option_map (λ (a : Attachment). place) (find (is_attached id) rows)
  advanced_among [] = refl
  advanced_among (row ∷ rows) = advanced_at row rows (is_attached id row) refl (advanced_among rows)

  by_mount_row : (found : Option MountAttachments) → place_of (option_map (advanced_there id place) found) ≡ option_map (λ (a : Attachment). place) (found_in id found)
  by_mount_row None = refl
  by_mount_row (Some x) = advanced_among x.attachments

  now_there : places_in advanced_in mount id ≡ option_map (λ (a : Attachment). place) (found_in id (find (is_of_mount mount) mounts))
  now_there = ap place_of (changed_here mount (advanced_there id place) (λ x. refl) mounts) ∙ by_mount_row (find (is_of_mount mount) mounts)

  pub advanced_place : IsAt (places_in advanced_in mount id) place
  advanced_place = subst (λ found. IsAt found place) (sym now_there) (by_row (found_in id (find (is_of_mount mount) mounts))) where
    by_row : (row : Option Attachment) → IsAt (option_map (λ (a : Attachment). place) row) place
    by_row None = inl refl
    by_row (Some row) = inr refl

  some_still : (row : Option Attachment) → is_some (option_map (λ (a : Attachment). a.place) row) ≡ true → is_some (option_map (λ (a : Attachment). place) row) ≡ true
  some_still None e = cc
  some_still (Some row) e = refl

  pub advanced_over : GoesOver (places_in mounts) (places_in advanced_in) id mount mount
  advanced_over = record {
    here = λ some. ap (λ (found : Option ℕ). is_some found) now_there ∙ some_still (found_in id (find (is_of_mount mount) mounts)) some;
    gone = λ apart. absurd (apart_not apart);
    elsewhere = λ m apart also. ap place_of (changed_there mount (advanced_there id place) (λ x. refl) m apart mounts);
  } where
    apart_not : bytes_eq mount mount ≡ false → ⊥
    apart_not e = let same = (bytes_eq-Decides mount mount).1 refl in let contra : true ≡ false = sym same ∙ e in cc
