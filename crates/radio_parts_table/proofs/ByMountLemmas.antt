-- who is attached where, after an attachment has moved
use Rattle.std.proofs.Common.{◌≡◌, Bool, true, false, ℕ, ◌==◌, inl, inr, Option, Some, None, List, [], ◌∷◌, not, refl, ap, sym, subst, ◌∙◌, arith}
use Rattle.radio_parts_table.proofs.Words.{find, filter, is_some, if◌then◌else◌, option_map, bytes_eq, eqb-true, nat_tests, bytes_eq-Decides, update_first, find_here, find_later, find_apart, find_others, find_removed}
use Rattle.radio_parts_table.proofs.Words.{found_passes, Attachment, is_attached, at_place, comes_before, put_in, OthersStay, IsAt, GoesOver, GoesOff, has_part, MountAttachments, is_of_mount, found_in, places_in}
use Rattle.radio_parts_table.proofs.Words.{without_id, with_boxed}

-- a mount's row that has changed
module _ (mount : List ℕ) (f : MountAttachments → MountAttachments) (same : (x : MountAttachments) → (f x).mount ≡ x.mount) where
  abbrev of : MountAttachments → Bool
  of = is_of_mount mount

  changed_at : (x : MountAttachments) (xs : List MountAttachments) (b : Bool) → of x ≡ b → find of (update_first of f xs) ≡ option_map f (find of xs)
      → find of (if b then f x ∷ xs else x ∷ update_first of f xs) ≡ option_map f (if b then Some x else find of xs)
  changed_at x xs true e later = find_here of (f x) xs (ap (λ m. bytes_eq m mount) (same x) ∙ e)
  changed_at x xs false e later = find_later of x (update_first of f xs) e ∙ later

  pub changed_here : (xs : List MountAttachments) → find of (update_first of f xs) ≡ option_map f (find of xs)
  changed_here [] = refl
  changed_here (x ∷ xs) = changed_at x xs (of x) refl (changed_here xs)

  pub changed_there : (other : List ℕ) → bytes_eq mount other ≡ false → (xs : List MountAttachments)
      → find (is_of_mount other) (update_first of f xs) ≡ find (is_of_mount other) xs
  changed_there other apart xs = find_apart (is_of_mount other) of f (λ x e. (his x e, ap (λ m. bytes_eq m other) (same x) ∙ his x e)) xs where
    his : (x : MountAttachments) → of x ≡ true → is_of_mount other x ≡ false
    his x e = ap (λ m. bytes_eq m other) ((bytes_eq-Decides x.mount mount).0 e) ∙ apart

  -- what stays the same of each row stays the same at each mount
  pub stays_so : (other : ℕ) → ((x : MountAttachments) → found_in other (Some (f x)) ≡ found_in other (Some x)) → (xs : List MountAttachments) (at : List ℕ)
      → places_in (update_first of f xs) at other ≡ places_in xs at other
  stays_so other alike xs at = ap (option_map (λ (row : Attachment). row.place)) (by_mount (bytes_eq mount at) refl) where
    found_alike : (found : Option MountAttachments) → found_in other (option_map f found) ≡ found_in other found
    found_alike None = refl
    found_alike (Some x) = alike x

    by_mount : (b : Bool) → bytes_eq mount at ≡ b
        → found_in other (find (is_of_mount at) (update_first of f xs)) ≡ found_in other (find (is_of_mount at) xs)
    by_mount true e =
        let is : mount ≡ at = (bytes_eq-Decides mount at).0 e in
        subst (λ (m : List ℕ). found_in other (find (is_of_mount m) (update_first of f xs)) ≡ found_in other (find (is_of_mount m) xs)) is
        (ap (found_in other) (changed_here xs) ∙ found_alike (find of xs))
    by_mount false e = ap (found_in other) (changed_there at e xs)

-- a row that goes, and one that comes, is nobody else's
pub not_his : (id other : ℕ) → (id == other) ≡ false → (row : Attachment) → is_attached id row ≡ true → is_attached other row ≡ false
not_his id other apart row e = ap (λ n. n == other) (eqb-true row.id id e) ∙ apart

pub without_alike : (id other : ℕ) → (id == other) ≡ false → (x : MountAttachments) → found_in other (Some (without_id id x)) ≡ found_in other (Some x)
without_alike id other apart x = find_others (is_attached other) (is_attached id) (not_his id other apart) x.attachments

module _ (new : Attachment) where
  put_beside_at : (other : ℕ) (x : Attachment) (xs : List Attachment) (b c d : Bool) → (new.id == x.id) ≡ b → comes_before new.id x.id ≡ c → is_attached other x ≡ d
      → is_attached other new ≡ false → find (is_attached other) (put_in new xs) ≡ find (is_attached other) xs
      → find (is_attached other) (if b then new ∷ xs else if c then new ∷ x ∷ xs else x ∷ put_in new xs) ≡ (if d then Some x else find (is_attached other) xs)
  put_beside_at other x xs true c true e f g apart later =
      let one : (new.id == other) ≡ true = ap (λ n. n == other) (eqb-true new.id x.id e) ∙ g in
      cc
  put_beside_at other x xs true c false e f g apart later = find_later (is_attached other) new xs apart
  put_beside_at other x xs false true true e f g apart later = find_later (is_attached other) new (x ∷ xs) apart ∙ find_here (is_attached other) x xs g
  put_beside_at other x xs false true false e f g apart later = find_later (is_attached other) new (x ∷ xs) apart ∙ find_later (is_attached other) x xs g
  put_beside_at other x xs false false true e f g apart later = find_here (is_attached other) x (put_in new xs) g
  put_beside_at other x xs false false false e f g apart later = find_later (is_attached other) x (put_in new xs) g ∙ later

  pub put_beside : (other : ℕ) → is_attached other new ≡ false → (xs : List Attachment) → find (is_attached other) (put_in new xs) ≡ find (is_attached other) xs
  put_beside other apart [] = find_later (is_attached other) new [] apart
  put_beside other apart (x ∷ xs) =
      put_beside_at other x xs (new.id == x.id) (comes_before new.id x.id) (is_attached other x) refl refl refl apart (put_beside other apart xs)

  put_there_at : (id : ℕ) (x : Attachment) (xs : List Attachment) (b c : Bool) → (new.id == x.id) ≡ b → is_attached id new ≡ true
      → find (is_attached id) (put_in new xs) ≡ Some new
      → find (is_attached id) (if b then new ∷ xs else if c then new ∷ x ∷ xs else x ∷ put_in new xs) ≡ Some new
  put_there_at id x xs true c e his later = find_here (is_attached id) new xs his
  put_there_at id x xs false true e his later = find_here (is_attached id) new (x ∷ xs) his
  put_there_at id x xs false false e his later = find_later (is_attached id) x (put_in new xs) other ∙ later where
    other : is_attached id x ≡ false
    other = let is : new.id ≡ id = eqb-true new.id id his in grind (arith, nat_tests, e, is)

  pub put_there : (id : ℕ) → is_attached id new ≡ true → (xs : List Attachment) → find (is_attached id) (put_in new xs) ≡ Some new
  put_there id his [] = find_here (is_attached id) new [] his
  put_there id his (x ∷ xs) = put_there_at id x xs (new.id == x.id) (comes_before new.id x.id) refl his (put_there id his xs)

-- a row that was taken is its
abbrev pub IsHis : ℕ → Option Attachment → Type 0
IsHis id None = Unit {0}
IsHis id (Some row) = is_attached id row ≡ true

pub found_his : (id : ℕ) (found : Option MountAttachments) → IsHis id (found_in id found)
found_his id None = tt
found_his id (Some x) = by_row (find (is_attached id) x.attachments) refl where
  by_row : (row : Option Attachment) → find (is_attached id) x.attachments ≡ row → IsHis id row
  by_row None e = tt
  by_row (Some row) e = found_passes (is_attached id) x.attachments row e

pub moved_his : (id place : ℕ) (boxed : Option Attachment) → IsHis id boxed → IsHis id (option_map (at_place place) boxed)
moved_his id place None h = tt
moved_his id place (Some row) h = h

pub with_alike : (id other : ℕ) → (id == other) ≡ false → (boxed : Option Attachment) → IsHis id boxed → (x : MountAttachments)
    → found_in other (Some (with_boxed boxed x)) ≡ found_in other (Some x)
with_alike id other apart None h x = refl
with_alike id other apart (Some row) h x = put_beside row other (not_his id other apart row h) x.attachments

-- all others stay
module _ (id : ℕ) (from to : List ℕ) (mounts : List MountAttachments) where
  abbrev pub taken_out : List MountAttachments
  taken_out = update_first (is_of_mount from) (without_id id) mounts

  abbrev pub cleared : List MountAttachments
  cleared = update_first (is_of_mount to) (without_id id) taken_out

  pub detached_others : OthersStay (places_in mounts) (places_in taken_out) id
  detached_others at other apart = stays_so from (without_id id) (λ x. refl) other (without_alike id other apart) mounts at

  abbrev pub put_back_in : Option Attachment → List MountAttachments
  put_back_in boxed = update_first (is_of_mount to) (with_boxed boxed) cleared

  pub shifted_others : (boxed : Option Attachment) → IsHis id boxed → OthersStay (places_in mounts) (places_in (put_back_in boxed)) id
  shifted_others boxed his at other apart =
      stays_so to (with_boxed boxed) (λ x. refl) other (with_alike id other apart boxed his) cleared at
      ∙ stays_so to (without_id id) (λ x. refl) other (without_alike id other apart) taken_out at ∙ detached_others at other apart

  -- and it is at that place, or not attached there
  pub shifted_there : (place : ℕ) (boxed : Option Attachment) → IsHis id boxed → IsAt (places_in (put_back_in (option_map (at_place place) boxed)) to id) place
  shifted_there place boxed his = subst (λ (found : Option MountAttachments). IsAt (option_map (λ (row : Attachment). row.place) (found_in id found)) place) (sym found)
      (by_found (find (is_of_mount to) taken_out) boxed his) where
        now : Option Attachment
        now = option_map (at_place place) boxed

        found : find (is_of_mount to) (put_back_in now) ≡ option_map (with_boxed now) (option_map (without_id id) (find (is_of_mount to) taken_out))
        found = changed_here to (with_boxed now) (λ x. refl) cleared ∙ ap (option_map (with_boxed now)) (changed_here to (without_id id) (λ x. refl) taken_out)

        by_found : (there : Option MountAttachments) (row : Option Attachment) → IsHis id row
            → IsAt (option_map (λ (r : Attachment). r.place) (found_in id (option_map (with_boxed (option_map (at_place place) row)) (option_map (without_id id) there)))) place
        by_found None row h = inl refl
        by_found (Some x) None h = inl (ap (option_map (λ (r : Attachment). r.place)) (find_removed (is_attached id) (is_attached id) x.attachments))
        by_found (Some x) (Some row) h =
            inr (ap (option_map (λ (r : Attachment). r.place))
            (put_there (at_place place row) id h (filter (λ y. not (is_attached id y)) x.attachments)))

-- each mount has places still
still_some : (f : MountAttachments → MountAttachments) (found : Option MountAttachments) → is_some (option_map f found) ≡ is_some found
still_some f None = refl
still_some f (Some x) = refl

pub part_stays : (mount : List ℕ) (f : MountAttachments → MountAttachments) (same : (x : MountAttachments) → (f x).mount ≡ x.mount) (xs : List MountAttachments) (at : List ℕ)
    → has_part (update_first (is_of_mount mount) f xs) at ≡ has_part xs at
part_stays mount f same xs at = by_mount (bytes_eq mount at) refl where
  by_mount : (b : Bool) → bytes_eq mount at ≡ b → has_part (update_first (is_of_mount mount) f xs) at ≡ has_part xs at
  by_mount true e =
      let is : mount ≡ at = (bytes_eq-Decides mount at).0 e in
      subst (λ (m : List ℕ). has_part (update_first (is_of_mount mount) f xs) m ≡ has_part xs m) is
      (ap (λ (found : Option MountAttachments). is_some found) (changed_here mount f same xs) ∙ still_some f (find (is_of_mount mount) xs))
  by_mount false e = ap (λ (found : Option MountAttachments). is_some found) (changed_there mount f same at e xs)

-- nobody of its number is left where it was taken out
none_left : (id : ℕ) (found : Option MountAttachments) → option_map (λ (row : Attachment). row.place) (found_in id (option_map (without_id id) found)) ≡ None
none_left id None = refl
none_left id (Some x) = ap (option_map (λ (row : Attachment). row.place)) (find_removed (is_attached id) (is_attached id) x.attachments)

module _ (id : ℕ) (from to : List ℕ) (mounts : List MountAttachments) where
  abbrev placed : Option MountAttachments → Option ℕ
  placed found = option_map (λ (row : Attachment). row.place) (found_in id found)

  pub goes_off : GoesOff (places_in mounts) (places_in (taken_out id from to mounts)) id from
  goes_off = record {
    gone = ap placed (changed_here from (without_id id) (λ x. refl) mounts) ∙ none_left id (find (is_of_mount from) mounts);
    elsewhere = λ m e. ap placed (changed_there from (without_id id) (λ x. refl) m e mounts);
  }

  module _ (boxed : Option Attachment) (is_spot : boxed ≡ found_in id (find (is_of_mount from) mounts)) (his : IsHis id boxed) (place : ℕ) where
    abbrev now : Option Attachment
    now = option_map (at_place place) boxed

    abbrev after : List MountAttachments
    after = put_back_in id from to mounts now

    at_to : find (is_of_mount to) after ≡ option_map (with_boxed now) (option_map (without_id id) (find (is_of_mount to) (taken_out id from to mounts)))
    at_to =
        changed_here to (with_boxed now) (λ x. refl) (cleared id from to mounts)
        ∙ ap (option_map (with_boxed now)) (changed_here to (without_id id) (λ x. refl) (taken_out id from to mounts))

    beside_to : (m : List ℕ) → bytes_eq to m ≡ false → find (is_of_mount m) after ≡ find (is_of_mount m) (taken_out id from to mounts)
    beside_to m e =
        changed_there to (with_boxed now) (λ x. refl) m e (cleared id from to mounts)
        ∙ changed_there to (without_id id) (λ x. refl) m e (taken_out id from to mounts)

    put_found : (row : Option Attachment) → IsHis id row → is_some (option_map (λ (r : Attachment). r.place) row) ≡ true → (there : Option MountAttachments) → is_some there ≡ true
        → is_some (placed (option_map (with_boxed (option_map (at_place place) row)) (option_map (without_id id) there))) ≡ true
    put_found None h some there part = cc
    put_found (Some row) h some None part = cc
    put_found (Some row) h some (Some x) part =
        ap (λ (found : Option Attachment). is_some (option_map (λ (r : Attachment). r.place) found))
        (put_there (at_place place row) id h (filter (λ y. not (is_attached id y)) x.attachments))

    pub goes_over : has_part mounts to ≡ true → GoesOver (places_in mounts) (places_in after) id from to
    goes_over part = record {
      here = λ some.
          ap (λ (found : Option MountAttachments). is_some (placed found)) at_to
          ∙ put_found boxed his (ap (λ (row : Option Attachment). is_some (option_map (λ (r : Attachment). r.place) row)) is_spot ∙ some)
          (find (is_of_mount to) (taken_out id from to mounts)) (part_stays from (without_id id) (λ x. refl) mounts to ∙ part);
      gone = λ e. ap placed (beside_to from e) ∙ goes_off.gone;
      elsewhere = λ m e f. ap placed (beside_to m f) ∙ goes_off.elsewhere m e;
    }
