-- the tree of users, after a change at one user
use Rattle.std.proofs.Common.{◌≡◌, Bool, true, false, ℕ, ◌==◌, ◌||◌, Option, List, [], ◌∷◌, length, not, refl, ap, sym, ◌∙◌, arith}
use Rattle.radio_seats.proofs.Words.{◌&&◌, cond, UpdatesBy, is_at, BTreeSet, contains, eq_by_cmp_equiv, list_any, nat_cmp, eq_by_cmp, is_eq, bytes_eq, nat_tests, bytes_eq-Decides, UserTree, by_bytes, entry_of}
use Rattle.radio_seats.proofs.Words.{has_number, is_kept}
use Rattle.std.specs.BTreeSet as sorted
use Rattle.std.specs.Cmp.Lexicographic.{nat_list_cmp_total, nat_list_eq_equiv, slice_cmp}
use Rattle.std.specs.Global.{Vec}
use Rattle.std.specs.Map.{lookup, KeepsOthers, IsKeyTest, AreApart}
use Rattle.std.specs.declared.cmp.Ordering.{Ordering}
use Rattle.std.proofs.lemmas.Map.Text.{is_eq-slice_cmp}

-- the order of the keys
abbrev pub by_key : Vec ℕ → Vec ℕ → Ordering
by_key a b = by_bytes a.items b

other_entries : {K X : Type 0} (eq : K → K → Bool) (test : K → Bool) (old new : List (K × X)) → KeepsOthers eq test old new
    → (other : K → Bool) → IsKeyTest eq other → AreApart test other → lookup other new ≡ lookup other old
unfolding KeepsOthers
other_entries eq test old new h = h

apart : (user other key : List ℕ) → bytes_eq user other ≡ false → is_eq (slice_cmp nat_cmp user key) ≡ true → is_eq (slice_cmp nat_cmp other key) ≡ false
apart user other key e equal =
    is_eq-slice_cmp other key ∙ nat_list_eq_equiv.symm other key
    ∙ sym (nat_list_eq_equiv.congr user key other (sym (is_eq-slice_cmp user key) ∙ equal)) ∙ e

-- what is kept under each user, where the entry of one is another now
module _ (user : List ℕ) (old new : UserTree) (entry : Option (BTreeSet ℕ)) (updates : UpdatesBy by_key (by_bytes user) old new entry) where
  other_entry : (other : List ℕ) → bytes_eq user other ≡ false → entry_of new other ≡ entry_of old other
  other_entry other e =
      other_entries (eq_by_cmp by_key) (is_at (by_bytes user)) old.entries new.entries updates.3 (is_at (by_bytes other))
      (λ a b. (eq_by_cmp_equiv nat_list_cmp_total).congr other a.items b.items)
      (λ key. apart user other key.items e)

  -- the numbers of the user change in one way, which changes no others
  module _ (change : Bool → Bool → Bool) (stays : (b : Bool) → change b false ≡ b) (id : ℕ)
      (changes : (k : ℕ) → has_number entry k ≡ change (has_number (entry_of old user) k) (id == k)) where
    with_true : (b : Bool) → b ≡ (b && true)
    with_true true = refl
    with_true false = refl

    with_false : (b : Bool) → false ≡ (b && false)
    with_false true = refl
    with_false false = refl

    changed_at : (other : List ℕ) (k : ℕ) (same : Bool) → bytes_eq user other ≡ same
        → is_kept new other k ≡ change (is_kept old other k) ((id == k) && same)
    changed_at other k true e =
        let his : user ≡ other = (bytes_eq-Decides user other).0 e in
        ap (λ u. is_kept new u k) (sym his)
        ∙ ap (λ entry. has_number entry k) updates.1 ∙ changes k
        ∙ ap (λ u. change (is_kept old u k) (id == k)) his
        ∙ ap (change (is_kept old other k)) (with_true (id == k))
    changed_at other k false e =
        ap (λ entry. has_number entry k) (other_entry other e)
        ∙ sym (stays (is_kept old other k))
        ∙ ap (change (is_kept old other k)) (with_false (id == k))

    pub kept_changed : (other : List ℕ) (k : ℕ) → is_kept new other k ≡ change (is_kept old other k) ((id == k) && bytes_eq user other)
    kept_changed other k = changed_at other k (bytes_eq user other) refl

  pub kept_same : ((k : ℕ) → has_number entry k ≡ has_number (entry_of old user) k) → (other : List ℕ) (k : ℕ) → is_kept new other k ≡ is_kept old other k
  kept_same same = kept_changed (λ b c. b) (λ b. refl) 0 same

pub or_stays : (b : Bool) → (b || false) ≡ b
or_stays true = refl
or_stays false = refl

pub and_not_stays : (b : Bool) → (b && not false) ≡ b
and_not_stays true = refl
and_not_stays false = refl

pub is_same : (a b : ℕ) → is_eq (nat_cmp a b) ≡ (a == b)
is_same a b = grind (arith, nat_tests)

-- a number more, or less, in an entry
module _ (id : ℕ) (old new : BTreeSet ℕ) (k : ℕ) where
  if_true : (t b : Bool) → cond t true b ≡ (b || t)
  if_true true true = refl
  if_true true false = refl
  if_true false true = refl
  if_true false false = refl

  if_false : (t b : Bool) → cond t false b ≡ (b && not t)
  if_false true true = refl
  if_false true false = refl
  if_false false true = refl
  if_false false false = refl

  pub number_more : sorted.UpdatesBy nat_cmp (nat_cmp id) old new true → contains nat_cmp new k ≡ (contains nat_cmp old k || (id == k))
  number_more updates = updates.0 k ∙ if_true (is_at (nat_cmp id) k) (contains nat_cmp old k) ∙ ap (λ t. contains nat_cmp old k || t) (is_same id k)

  pub number_less : sorted.UpdatesBy nat_cmp (nat_cmp id) old new false → contains nat_cmp new k ≡ (contains nat_cmp old k && not (id == k))
  number_less updates =
      updates.0 k ∙ if_false (is_at (nat_cmp id) k) (contains nat_cmp old k) ∙ ap (λ t. contains nat_cmp old k && not t) (is_same id k)

pub none_in_empty : (p : ℕ → Bool) (ids : List ℕ) → length ids ≡ 0 → list_any p ids ≡ false
none_in_empty p [] e = refl
none_in_empty p (id ∷ ids) e = absurd (omega (arith, e))
