-- the attachments that lag: one is among them exactly if it was found and lags, and then it is found no more
use Rattle.std.proofs.Common.{◌≡◌, Bool, true, false, ℕ, ◌==◌, ◌-◌, Option, Some, None, List, [], ◌∷◌, not, refl, ap, sym, subst, ◌∙◌, arith}
use Rattle.radio_parts_table.proofs.Words.{find, filter, nat_lt, if◌then◌else◌, option_map, option_map_or, bytes_eq, nat_tests, update_first, Each, Each_each, find_here, find_later, finds_none, Attachment, is_attached}
use Rattle.radio_parts_table.proofs.Words.{lags, IsBefore, AreInOrder, has_part, MountAttachments, is_of_mount, attachments_in, found_in, places_in, without_lagging, is_among}
use Rattle.radio_attachments.proofs.Forks.{each_filtered}
use Rattle.radio_attachments.proofs.Order.{is_apart}
use Rattle.radio_parts_table.proofs.ByMountLemmas.{changed_here, changed_there, part_stays}

abbrev place_in : Option Attachment → Option ℕ
place_in found = option_map (λ (row : Attachment). row.place) found

abbrev AreOthers : ℕ → List Attachment → Type 0
AreOthers id rows = Each (λ row. is_attached id row ≡ false) rows

turned : (a b : ℕ) → (a == b) ≡ false → (b == a) ≡ false
turned a b e = grind (arith, nat_tests)

turned_yes : (a b : ℕ) → (a == b) ≡ true → (b == a) ≡ true
turned_yes a b e = grind (arith, nat_tests)

-- behind one in order there are others alone
others_behind : (id : ℕ) (row : Attachment) (rows : List Attachment) → is_attached id row ≡ true → Each (IsBefore row) rows → AreOthers id rows
others_behind id row rows e all =
    Each_each (IsBefore row) (λ other. is_attached id other ≡ false) (λ other before. apart other (is_apart row.id other.id before)) rows all where
      apart : (other : Attachment) → (other.id == row.id) ≡ false → (other.id == id) ≡ false
      apart other f = grind (arith, nat_tests, e, f)

-- no other is among them
none_among : (id : ℕ) (rows : List Attachment) → AreOthers id rows → is_among rows id ≡ false
none_among id [] all = refl
none_among id (row ∷ rows) all = rw (turned row.id id all.0) (none_among id rows all.1)

module _ (end queue : ℕ) where
  abbrev pub far : ℕ → Bool
  far place = nat_lt queue (end - place)

  abbrev lagging : List Attachment → List Attachment
  lagging rows = filter (lags end queue) rows

  abbrev rest : List Attachment → List Attachment
  rest rows = filter (λ row. not (lags end queue row)) rows

  module _ (id : ℕ) where
    abbrev AmongIs : List Attachment → Type 0
    AmongIs rows = is_among (lagging rows) id ≡ option_map_or far (place_in (find (is_attached id) rows)) false

    among_at : (row : Attachment) (rows : List Attachment) (b c : Bool) → is_attached id row ≡ b → lags end queue row ≡ c → AreInOrder (row ∷ rows)
        → AmongIs rows
        → is_among (if c then row ∷ lagging rows else lagging rows) id ≡ option_map_or far (place_in (if b then Some row else find (is_attached id) rows)) false
    among_at row rows true true e f order later = rw (turned_yes row.id id e) (sym f)
    among_at row rows true false e f order later =
        none_among id (lagging rows) (each_filtered (λ x. is_attached id x ≡ false) (lags end queue) rows (others_behind id row rows e order.0)) ∙ sym f
    among_at row rows false true e f order later = rw (turned row.id id e) later
    among_at row rows false false e f order later = later

    pub among_is : (rows : List Attachment) → AreInOrder rows → AmongIs rows
    among_is [] order = refl
    among_is (row ∷ rows) order = among_at row rows (is_attached id row) (lags end queue row) refl refl order (among_is rows order.1)

    abbrev RestIs : List Attachment → Type 0
    RestIs rows = find (is_attached id) (rest rows) ≡ (if is_among (lagging rows) id then None else find (is_attached id) rows)

    rest_at : (row : Attachment) (rows : List Attachment) (b c : Bool) → is_attached id row ≡ b → lags end queue row ≡ c → AreInOrder (row ∷ rows) → RestIs rows
        → find (is_attached id) (if not c then row ∷ rest rows else rest rows)
        ≡ (if is_among (if c then row ∷ lagging rows else lagging rows) id then None else (if b then Some row else find (is_attached id) rows))
    rest_at row rows true true e f order later =
        finds_none (is_attached id) (rest rows) (each_filtered (λ x. is_attached id x ≡ false) (λ x. not (lags end queue x)) rows (others_behind id row rows e order.0))
        ∙ sym (rw (turned_yes row.id id e) refl)
    rest_at row rows true false e f order later =
        let none = none_among id (lagging rows) (each_filtered (λ x. is_attached id x ≡ false) (lags end queue) rows (others_behind id row rows e order.0)) in
        find_here (is_attached id) row (rest rows) e ∙ sym (rw none refl)
    rest_at row rows false true e f order later = later ∙ sym (rw (turned row.id id e) refl)
    rest_at row rows false false e f order later = find_later (is_attached id) row (rest rows) e ∙ later

    pub rest_is : (rows : List Attachment) → AreInOrder rows → RestIs rows
    rest_is [] order = refl
    rest_is (row ∷ rows) order = rest_at row rows (is_attached id row) (lags end queue row) refl refl order (rest_is rows order.1)

  -- where nobody lags all stay
  keeps_at : (row : Attachment) (rows : List Attachment) (b : Bool) → b ≡ false → rest rows ≡ rows → (if not b then row ∷ rest rows else rest rows) ≡ row ∷ rows
  keeps_at row rows true e later = cc
  keeps_at row rows false e later = ap (λ xs. row ∷ xs) later

  keeps_all : (rows : List Attachment) → Each (λ row. lags end queue row ≡ false) rows → rest rows ≡ rows
  keeps_all [] none = refl
  keeps_all (row ∷ rows) none = keeps_at row rows (lags end queue row) none.0 (keeps_all rows none.1)

  pub nobody_lags : (mount : List ℕ) (mounts : List MountAttachments) → Each (λ row. lags end queue row ≡ false) (attachments_in (find (is_of_mount mount) mounts))
      → mounts ≡ update_first (is_of_mount mount) (without_lagging end queue) mounts
  nobody_lags mount [] none = refl
  nobody_lags mount (x ∷ xs) none = by_test (is_of_mount mount x) refl (λ later. nobody_lags mount xs later) where
    by_test : (b : Bool) → is_of_mount mount x ≡ b
        → (Each (λ row. lags end queue row ≡ false) (attachments_in (find (is_of_mount mount) xs)) → xs ≡ update_first (is_of_mount mount) (without_lagging end queue) xs)
        → x ∷ xs ≡ (if b then without_lagging end queue x ∷ xs else x ∷ update_first (is_of_mount mount) (without_lagging end queue) xs)
    by_test true e later =
        let found = ap (λ (f : Option MountAttachments). attachments_in f) (find_here (is_of_mount mount) x xs e) in
        let its : Each (λ row. lags end queue row ≡ false) x.attachments = subst (λ rows. Each (λ row. lags end queue row ≡ false) rows) found none in
        ap (λ rows. record { mount = x.mount; attachments = rows } ∷ xs) (sym (keeps_all x.attachments its))
    by_test false e later =
        ap (λ ys. x ∷ ys) (later (subst (λ (f : Option MountAttachments). Each (λ row. lags end queue row ≡ false) (attachments_in f))
        (find_later (is_of_mount mount) x xs e) none))

  -- so at the mount
  module _ (mount : List ℕ) (mounts : List MountAttachments) (order : AreInOrder (attachments_in (find (is_of_mount mount) mounts))) where
    abbrev pub lost : ℕ → Bool
    lost id = is_among (lagging (attachments_in (find (is_of_mount mount) mounts))) id

    abbrev pub later : List MountAttachments
    later = update_first (is_of_mount mount) (without_lagging end queue) mounts

    found_there : (id : ℕ) (found : Option MountAttachments) → found_in id found ≡ find (is_attached id) (attachments_in found)
    found_there id None = refl
    found_there id (Some row) = refl

    pub is_lost : (id : ℕ) → lost id ≡ option_map_or far (places_in mounts mount id) false
    is_lost id =
        among_is id (attachments_in (find (is_of_mount mount) mounts)) order
        ∙ ap (λ found. option_map_or far (place_in found) false) (sym (found_there id (find (is_of_mount mount) mounts)))

    stays_found : (id : ℕ) (found : Option MountAttachments) → AreInOrder (attachments_in found)
        → place_in (found_in id (option_map (without_lagging end queue) found))
        ≡ (if is_among (lagging (attachments_in found)) id then None else place_in (found_in id found))
    stays_found id None o = refl
    stays_found id (Some row) o = ap place_in (rest_is id row.attachments o) ∙ by_loss (is_among (lagging row.attachments) id) where
      by_loss : (b : Bool) → place_in (if b then None else find (is_attached id) row.attachments)
          ≡ (if b then None else place_in (find (is_attached id) row.attachments))
      by_loss true = refl
      by_loss false = refl

    pub places_there : (id : ℕ) → places_in later mount id ≡ (if lost id then None else places_in mounts mount id)
    places_there id =
        ap (λ (found : Option MountAttachments). place_in (found_in id found)) (changed_here mount (without_lagging end queue) (λ x. refl) mounts)
        ∙ stays_found id (find (is_of_mount mount) mounts) order

    pub places_elsewhere : (other : List ℕ) (id : ℕ) → bytes_eq mount other ≡ false → places_in later other id ≡ places_in mounts other id
    places_elsewhere other id apart =
        ap (λ (found : Option MountAttachments). place_in (found_in id found)) (changed_there mount (without_lagging end queue) (λ x. refl) other apart mounts)

    pub parts_stay : (other : List ℕ) → has_part later other ≡ has_part mounts other
    parts_stay other = part_stays mount (without_lagging end queue) (λ x. refl) mounts other
