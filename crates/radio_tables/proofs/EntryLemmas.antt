-- what a map's entries, each a row under a key equal to its own, say of the list of the rows
use Rattle.std.proofs.Common.{◌≡◌, Bool, true, false, cond, Option, Some, None, List, [], ◌∷◌, ◌++◌, refl, ap, sym, ◌∙◌, not}
use Rattle.std.specs.Prelude.{◌&&◌, find, filter, map}
use Rattle.std.specs.List.{AllByRecursion}
use Rattle.std.specs.List.Sorted.{IsStrictlySortedBy}
use Rattle.std.specs.Cmp.{IsTotalOrder}
use Rattle.std.specs.declared.cmp.Ordering.{Ordering}
use Rattle.std.specs.declared.cmp.Ordering.TheVariants.{Less, Equal, Greater}
use Rattle.std.specs.Ordering.{is_eq, is_lt, ordering_reverse}
use Rattle.std.specs.Map.{lookup, set_value, remove_entry, keys_of, values_of}
use Rattle.std.specs.BTreeMap.{insert_entry, is_at}
use Rattle.std.proofs.lemmas.Map.Keys.{sorted_head, sorted_tail}
use Rattle.radio_tables.specs.Entries.{AreOwn}
use Rattle.radio_tables.specs.Lists.{update_first, placed, Each}

module _ {K X : Type 0} (cmp : K → K → Ordering) (total : IsTotalOrder cmp) (key : X → K) (has_key : K → X → Bool)
    (has_key_is : (k : K) (x : X) → has_key k x ≡ is_eq (cmp k (key x))) where
  abbrev pub Own : List (K × X) → Type 0
  Own es = AreOwn cmp key es

  -- who is equal is compared alike
  alike : (k a b : K) → cmp a b ≡ Equal → cmp k a ≡ cmp k b
  alike k a b e = total.antisymm k a ∙ ap ordering_reverse (total.congr a b k e) ∙ sym (total.antisymm k b)

  -- the test of the keys and that of the rows are one
  one_test : (k : K) (e : K × X) → cmp (key e.1) e.0 ≡ Equal → has_key k e.1 ≡ is_at (cmp k) e.0
  one_test k e own = has_key_is k e.1 ∙ ap is_eq (alike k (key e.1) e.0 own)

  pub lookup_finds : (k : K) (es : List (K × X)) → Own es → lookup (is_at (cmp k)) es ≡ find (has_key k) (values_of es)
  lookup_finds k [] own = refl
  lookup_finds k (e ∷ es) own = rw (one_test k e own.0) (ap (cond (is_at (cmp k) e.0) (Some e.1)) (lookup_finds k es own.1))

  -- the row that was found, changed
  changed_at : (k : K) (f : X → X) (v : X) (e : K × X) (es : List (K × X)) (b : Bool) → is_at (cmp k) e.0 ≡ b → has_key k e.1 ≡ is_at (cmp k) e.0
      → (lookup (is_at (cmp k)) es ≡ Some v → values_of (set_value (is_at (cmp k)) es (f v)) ≡ update_first (has_key k) f (values_of es))
      → lookup (is_at (cmp k)) (e ∷ es) ≡ Some v → values_of (set_value (is_at (cmp k)) (e ∷ es) (f v)) ≡ update_first (has_key k) f (values_of (e ∷ es))
  changed_at k f v e es true t one later h =
      let here : lookup (is_at (cmp k)) (e ∷ es) ≡ Some e.1 = rw t refl in
      let same : e.1 ≡ v = cc in
      rw (one, t) (ap (λ x. f x ∷ values_of es) (sym same))
  changed_at k f v e es false t one later h =
      let past : lookup (is_at (cmp k)) (e ∷ es) ≡ lookup (is_at (cmp k)) es = rw t refl in
      rw (one, t) (ap (λ xs. e.1 ∷ xs) (later (sym past ∙ h)))

  pub values-changed : (k : K) (f : X → X) (v : X) (es : List (K × X)) → Own es → lookup (is_at (cmp k)) es ≡ Some v
      → values_of (set_value (is_at (cmp k)) es (f v)) ≡ update_first (has_key k) f (values_of es)
  values-changed k f v [] own h = refl
  values-changed k f v (e ∷ es) own h = changed_at k f v e es (is_at (cmp k) e.0) refl (one_test k e own.0) (values-changed k f v es own.1) h

  -- where nothing is found nothing changes
  unchanged_at : (k : K) (f : X → X) (e : K × X) (es : List (K × X)) (b : Bool) → is_at (cmp k) e.0 ≡ b → has_key k e.1 ≡ is_at (cmp k) e.0
      → (lookup (is_at (cmp k)) es ≡ None → values_of es ≡ update_first (has_key k) f (values_of es))
      → lookup (is_at (cmp k)) (e ∷ es) ≡ None → values_of (e ∷ es) ≡ update_first (has_key k) f (values_of (e ∷ es))
  unchanged_at k f e es true t one later h = let here : lookup (is_at (cmp k)) (e ∷ es) ≡ Some e.1 = rw t refl in cc
  unchanged_at k f e es false t one later h =
      let past : lookup (is_at (cmp k)) (e ∷ es) ≡ lookup (is_at (cmp k)) es = rw t refl in
      rw (one, t) (ap (λ xs. e.1 ∷ xs) (later (sym past ∙ h)))

  pub values-unchanged : (k : K) (f : X → X) (es : List (K × X)) → Own es → lookup (is_at (cmp k)) es ≡ None
      → values_of es ≡ update_first (has_key k) f (values_of es)
  values-unchanged k f [] own h = refl
  values-unchanged k f (e ∷ es) own h = unchanged_at k f e es (is_at (cmp k) e.0) refl (one_test k e own.0) (values-unchanged k f es own.1) h

  own_changed_at : (k : K) (f : X → X) (v : X) → key (f v) ≡ key v → (e : K × X) (es : List (K × X)) (b : Bool) → is_at (cmp k) e.0 ≡ b
      → cmp (key e.1) e.0 ≡ Equal → Own es
      → (lookup (is_at (cmp k)) es ≡ Some v → Own (set_value (is_at (cmp k)) es (f v)))
      → lookup (is_at (cmp k)) (e ∷ es) ≡ Some v → Own (set_value (is_at (cmp k)) (e ∷ es) (f v))
  own_changed_at k f v stays e es true t here others later h =
      let found : lookup (is_at (cmp k)) (e ∷ es) ≡ Some e.1 = rw t refl in
      let same : e.1 ≡ v = cc in
      rw t (ap (λ n. cmp n e.0) (stays ∙ ap key (sym same)) ∙ here, others)
  own_changed_at k f v stays e es false t here others later h =
      let past : lookup (is_at (cmp k)) (e ∷ es) ≡ lookup (is_at (cmp k)) es = rw t refl in
      rw t (here, later (sym past ∙ h))

  pub own-changed : (k : K) (f : X → X) (v : X) → key (f v) ≡ key v → (es : List (K × X)) → Own es → lookup (is_at (cmp k)) es ≡ Some v
      → Own (set_value (is_at (cmp k)) es (f v))
  own-changed k f v stays [] own h = tt
  own-changed k f v stays (e ∷ es) own h = own_changed_at k f v stays e es (is_at (cmp k) e.0) refl own.0 own.1 (own-changed k f v stays es own.1) h

  -- all rows, changed
  pub values-mapped : (f : X → X) (es : List (K × X)) → values_of (map (λ (e : K × X). (e.0, f e.1)) es) ≡ map f (values_of es)
  values-mapped f [] = refl
  values-mapped f (e ∷ es) = ap (λ xs. f e.1 ∷ xs) (values-mapped f es)

  pub own-mapped : (f : X → X) → ((x : X) → key (f x) ≡ key x) → (es : List (K × X)) → Own es → Own (map (λ (e : K × X). (e.0, f e.1)) es)
  own-mapped f stays [] own = tt
  own-mapped f stays (e ∷ es) own = (ap (λ n. cmp n e.0) (stays e.1) ∙ own.0, own-mapped f stays es own.1)

  -- a row more
  placed_at : (row : X) (e : K × X) (es : List (K × X)) (o : Ordering) → cmp (key row) (key e.1) ≡ o → cmp (key row) e.0 ≡ o
      → values_of (insert_entry cmp es (key row) row) ≡ placed (λ a b. cmp (key a) (key b)) row (values_of es)
      → values_of (insert_entry cmp (e ∷ es) (key row) row) ≡ placed (λ a b. cmp (key a) (key b)) row (values_of (e ∷ es))
  placed_at row e es Less t u later = rw (t, u) refl
  placed_at row e es Equal t u later = rw (t, u) refl
  placed_at row e es Greater t u later = rw (t, u) (ap (λ xs. e.1 ∷ xs) later)

  pub values-placed : (row : X) (es : List (K × X)) → Own es
      → values_of (insert_entry cmp es (key row) row) ≡ placed (λ a b. cmp (key a) (key b)) row (values_of es)
  values-placed row [] own = refl
  values-placed row (e ∷ es) own = placed_at row e es (cmp (key row) e.0) (alike (key row) (key e.1) e.0 own.0) refl (values-placed row es own.1)

  equal_self : (k : K) (o : Ordering) → cmp k k ≡ o → cmp k k ≡ Equal
  equal_self k Less e = let back : Less ≡ Greater = sym e ∙ total.antisymm k k ∙ ap ordering_reverse e in cc
  equal_self k Equal e = e
  equal_self k Greater e = let back : Greater ≡ Less = sym e ∙ total.antisymm k k ∙ ap ordering_reverse e in cc

  own_placed_at : (row : X) (e : K × X) (es : List (K × X)) (o : Ordering) → cmp (key row) e.0 ≡ o → cmp (key e.1) e.0 ≡ Equal → Own es
      → Own (insert_entry cmp es (key row) row) → Own (insert_entry cmp (e ∷ es) (key row) row)
  own_placed_at row e es Less t here others later = rw t (equal_self (key row) (cmp (key row) (key row)) refl, (here, others))
  own_placed_at row e es Equal t here others later = rw t (t, others)
  own_placed_at row e es Greater t here others later = rw t (here, later)

  pub own-placed : (row : X) (es : List (K × X)) → Own es → Own (insert_entry cmp es (key row) row)
  own-placed row [] own = (equal_self (key row) (cmp (key row) (key row)) refl, tt)
  own-placed row (e ∷ es) own = own_placed_at row e es (cmp (key row) e.0) refl own.0 own.1 (own-placed row es own.1)

  -- a row less
  pub none_above : (k n : K) (es : List (K × X)) → cmp k n ≡ Equal → AllByRecursion (λ m. cmp n m ≡ Less) (keys_of es) → Own es
      → filter (λ x. not (has_key k x)) (values_of es) ≡ values_of es
  none_above k n [] same above own = refl
  none_above k n (e ∷ es) same above own =
      let test : has_key k e.1 ≡ false = one_test k e own.0 ∙ ap is_eq (total.congr k n e.0 same ∙ above.0) in
      rw test (ap (λ xs. e.1 ∷ xs) (none_above k n es same above.1 own.1))

  removed_at : (k : K) (e : K × X) (es : List (K × X)) (o : Ordering) → cmp k e.0 ≡ o → has_key k e.1 ≡ is_at (cmp k) e.0
      → AllByRecursion (λ m. cmp e.0 m ≡ Less) (keys_of es) → Own es
      → values_of (remove_entry (is_at (cmp k)) es) ≡ filter (λ x. not (has_key k x)) (values_of es)
      → values_of (remove_entry (is_at (cmp k)) (e ∷ es)) ≡ filter (λ x. not (has_key k x)) (values_of (e ∷ es))
  removed_at k e es Less t one above own later = rw (one, t) (ap (λ xs. e.1 ∷ xs) later)
  removed_at k e es Equal t one above own later = rw (one, t) (sym (none_above k e.0 es t above own))
  removed_at k e es Greater t one above own later = rw (one, t) (ap (λ xs. e.1 ∷ xs) later)

  pub values-removed : (k : K) (es : List (K × X)) → Own es → IsStrictlySortedBy cmp (keys_of es)
      → values_of (remove_entry (is_at (cmp k)) es) ≡ filter (λ x. not (has_key k x)) (values_of es)
  values-removed k [] own sorted = refl
  values-removed k (e ∷ es) own sorted =
      removed_at k e es (cmp k e.0) refl (one_test k e own.0) (sorted_head cmp e.0 (keys_of es) sorted) own.1
      (values-removed k es own.1 (sorted_tail cmp e.0 (keys_of es) sorted))

  own_removed_at : (k : K) (e : K × X) (es : List (K × X)) (b : Bool) → is_at (cmp k) e.0 ≡ b → cmp (key e.1) e.0 ≡ Equal → Own es
      → Own (remove_entry (is_at (cmp k)) es) → Own (remove_entry (is_at (cmp k)) (e ∷ es))
  own_removed_at k e es true t here others later = rw t others
  own_removed_at k e es false t here others later = rw t (here, later)

  pub own-removed : (k : K) (es : List (K × X)) → Own es → Own (remove_entry (is_at (cmp k)) es)
  own-removed k [] own = tt
  own-removed k (e ∷ es) own = own_removed_at k e es (is_at (cmp k) e.0) refl own.0 own.1 (own-removed k es own.1)

  -- behind all rows
  pub placed_last : (row : X) (xs : List X) → Each (λ x. cmp (key x) (key row) ≡ Less) xs → placed (λ a b. cmp (key a) (key b)) row xs ≡ xs ++ row ∷ []
  placed_last row [] above = refl
  placed_last row (x ∷ xs) above =
      let greater : cmp (key row) (key x) ≡ Greater = total.antisymm (key row) (key x) ∙ ap ordering_reverse above.0 in
      rw greater (ap (λ ys. x ∷ ys) (placed_last row xs above.1))

  -- rows under rising keys rise
  rising_at : (k n : K) (es : List (K × X)) → cmp k n ≡ Equal → AllByRecursion (λ m. cmp n m ≡ Less) (keys_of es) → Own es
      → AllByRecursion (λ m. cmp k m ≡ Less) (map key (values_of es))
  rising_at k n [] same above own = tt
  rising_at k n (e ∷ es) same above own = (alike k (key e.1) e.0 own.0 ∙ total.congr k n e.0 same ∙ above.0, rising_at k n es same above.1 own.1)

  pub values-rising : (es : List (K × X)) → Own es → IsStrictlySortedBy cmp (keys_of es) → IsStrictlySortedBy cmp (map key (values_of es))
  unfolding IsStrictlySortedBy
  values-rising [] own sorted = tt
  values-rising (e ∷ es) own sorted = (rising_at (key e.1) e.0 es own.0 sorted.0 own.1, values-rising es own.1 sorted.1)

  -- the first past a key
  abbrev pub first_value : List (K × X) → Option X
  first_value [] = None
  first_value (e ∷ es) = Some e.1

  past_at : (k : K) (e : K × X) (es : List (K × X)) (b : Bool) → is_lt (cmp k e.0) ≡ b → is_lt (cmp k (key e.1)) ≡ is_lt (cmp k e.0)
      → find (λ x. is_lt (cmp k (key x))) (values_of es) ≡ first_value (filter (λ (f : K × X). is_lt (cmp k f.0) && true) es)
      → find (λ x. is_lt (cmp k (key x))) (values_of (e ∷ es)) ≡ first_value (filter (λ (f : K × X). is_lt (cmp k f.0) && true) (e ∷ es))
  past_at k e es true t one later = rw (one, t) refl
  past_at k e es false t one later = rw (one, t) later

  pub first_past : (k : K) (es : List (K × X)) → Own es
      → find (λ x. is_lt (cmp k (key x))) (values_of es) ≡ first_value (filter (λ (f : K × X). is_lt (cmp k f.0) && true) es)
  first_past k [] own = refl
  first_past k (e ∷ es) own = past_at k e es (is_lt (cmp k e.0)) refl (ap is_lt (alike k (key e.1) e.0 own.0)) (first_past k es own.1)
