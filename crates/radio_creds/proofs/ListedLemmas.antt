-- A map of users as the tree that holds it.
use Rattle.std.proofs.Common.{◌≡◌, ℕ, Bool, true, false, cond, List, [], ◌∷◌, Option, None, Some, refl, sym, ap, subst, ◌∙◌}
use Rattle.std.specs.declared.cmp.Ordering.{Ordering}
use Rattle.std.specs.declared.cmp.Ordering.TheVariants.{Less, Equal, Greater}
use Rattle.std.proofs.lemmas.Bool.{false≢true}
use Rattle.std.specs.Cmp.{tied_itself}
use Rattle.std.specs.Ordering.{nat_cmp, is_eq, match_ordering}
use Rattle.std.specs.Cmp.Lexicographic.{slice_cmp, nat_list_cmp_total}
use Rattle.std.specs.BTreeMap.{is_at, insert_entry}
use Rattle.std.specs.Map.{lookup, remove_entry}
use Rattle.std.specs.FinMap as finite
use Rattle.std.specs.List.{AllZip}
use Rattle.std.specs.FinMap.{get-from_entries, get-insert, get-remove, find, same_map, nat_cmp-IsAntisymmetric, slice_cmp-IsAntisymmetric}
use Rattle.radio_creds.specs.UserList.{listed, UserList, with_line}

abbrev pub order : List ℕ → List ℕ → Ordering
order x y = slice_cmp nat_cmp x y

pub same_user : (x y : List ℕ) → order x y ≡ Equal → x ≡ y
same_user = slice_cmp-IsAntisymmetric nat_cmp-IsAntisymmetric

-- a test that comes again has been answered
shadowed : {A : Type 0} (b : Bool) (x y z : A) → cond b x z ≡ cond b x (cond b y z)
shadowed true x y z = refl
shadowed false x y z = refl

-- two tests that never pass together
swapped : {A : Type 0} (a b : Bool) (x y z : A) → (a ≡ true → b ≡ true → ⊥) → cond a x (cond b y z) ≡ cond b y (cond a x z)
swapped true true x y z apart = absurd (apart refl refl)
swapped true false x y z apart = refl
swapped false b x y z apart = refl

pub equal : (o : Ordering) → is_eq o ≡ true → o ≡ Equal
equal Less p = absurd (false≢true p)
equal Equal p = refl
equal Greater p = absurd (false≢true p)

greater_than_itself : (e : List ℕ) → order e e ≡ Greater → ⊥
greater_than_itself e h = false≢true (ap is_eq (sym h ∙ tied_itself nat_list_cmp_total e))

-- no user ties with two that are in order
apart : (q k e : List ℕ) → order k e ≡ Greater → is_eq (order q e) ≡ true → is_eq (order q k) ≡ true → ⊥
apart q k e h a b =
    let tied : k ≡ e = sym (same_user q k (equal _ b)) ∙ same_user q e (equal _ a) in
    greater_than_itself e (subst (λ (x : List ℕ). order x e ≡ Greater) tied h)

module _ {K : Type 0} (read : K → List ℕ) where
  -- a look-up in the tree finds what the map has
  pub find-listed : (user : List ℕ) (entries : List (K × List ℕ))
      → find (slice_cmp nat_cmp) user (listed read entries) ≡ lookup (is_at (λ key. slice_cmp nat_cmp user (read key))) entries
  find-listed user [] = refl
  find-listed user (e ∷ es) = ap (cond (is_eq (slice_cmp nat_cmp user (read e.0))) (Some e.1)) (find-listed user es)

  pub get-listed : (user : List ℕ) (entries : List (K × List ℕ))
      → finite.get (finite.from_entries {R = slice_cmp nat_cmp} (listed read entries)) user ≡ lookup (is_at (λ key. slice_cmp nat_cmp user (read key))) entries
  get-listed user entries = get-from_entries nat_list_cmp_total _ user ∙ find-listed user entries

  -- entries whose keys read the same, and which have the same digests
  pub listed-cloned : (C : K → K → Type 0) (D : List ℕ → List ℕ → Type 0) → ((k l : K) → C k l → read l ≡ read k) → ((v w : List ℕ) → D v w → w ≡ v)
      → (entries others : List (K × List ℕ)) → AllZip (λ e f. C e.0 f.0 × D e.1 f.1) entries others → listed read others ≡ listed read entries
  listed-cloned C D keys values [] [] h = refl
  listed-cloned C D keys values [] (f ∷ fs) h = absurd h
  listed-cloned C D keys values (e ∷ es) [] h = absurd h
  listed-cloned C D keys values (e ∷ es) (f ∷ fs) h =
      rw (keys e.0 f.0 h.0.0, values e.1 f.1 h.0.1, listed-cloned C D keys values es fs h.1) refl

  find-inserted : (q : List ℕ) (k : K) (v : List ℕ) (entries : List (K × List ℕ))
      → find (slice_cmp nat_cmp) q (listed read (insert_entry (λ x y. order (read x) (read y)) entries k v))
      ≡ cond (is_eq (order q (read k))) (Some v) (find (slice_cmp nat_cmp) q (listed read entries))
  find-inserted q k v [] = refl
  find-inserted q k v (e ∷ es) =
      let rest : Option (List ℕ) = find (slice_cmp nat_cmp) q (listed read es) in
      elim (order (read k) (read e.0)) as (λ o. order (read k) (read e.0) ≡ o
      → find (slice_cmp nat_cmp) q (listed read (match_ordering o ((k, v) ∷ e ∷ es) ((e.0, v) ∷ es)
      (e ∷ insert_entry (λ x y. order (read x) (read y)) es k v)))
      ≡ cond (is_eq (order q (read k))) (Some v) (cond (is_eq (order q (read e.0))) (Some e.1) rest)) [
        | Less ↦ λ h. refl
        | Equal ↦ λ h. subst (λ (u : List ℕ). cond (is_eq (order q (read e.0))) (Some v) rest ≡ cond (is_eq (order q u)) (Some v)
            (cond (is_eq (order q (read e.0))) (Some e.1) rest))
            (sym (same_user (read k) (read e.0) h)) (shadowed (is_eq (order q (read e.0))) (Some v) (Some e.1) rest)
        | Greater ↦ λ h. ap (cond (is_eq (order q (read e.0))) (Some e.1)) (find-inserted q k v es)
            ∙ swapped (is_eq (order q (read e.0))) (is_eq (order q (read k))) (Some e.1) (Some v) rest (apart q (read k) (read e.0) h)
      ] refl

  -- a new entry in the tree is a new user of the map
  pub listed-inserted : (k : K) (v : List ℕ) (entries : List (K × List ℕ))
      → finite.from_entries {R = slice_cmp nat_cmp} (listed read (insert_entry (λ x y. slice_cmp nat_cmp (read x) (read y)) entries k v))
      ≡ finite.insert (finite.from_entries (listed read entries)) (read k) v
  listed-inserted k v entries =
      same_map nat_list_cmp_total same_user _ _ (λ q. get-from_entries nat_list_cmp_total _ q ∙ find-inserted q k v entries
      ∙ sym (get-insert nat_list_cmp_total _ (read k) v q ∙ ap (cond (is_eq (order q (read k))) (Some v)) (get-from_entries nat_list_cmp_total _ q)))

  -- a user who is taken out of the tree, and what is found of others then
  passed_over : (q user : List ℕ) → is_eq (order q user) ≡ false → (e : K × List ℕ) (es : List (K × List ℕ)) (b : Bool) → is_eq (order user (read e.0)) ≡ b
      → find order q (listed read (remove_entry (is_at (λ key. order user (read key))) es)) ≡ find order q (listed read es)
      → find order q (listed read (cond b es (e ∷ remove_entry (is_at (λ key. order user (read key))) es))) ≡ find order q (listed read (e ∷ es))
  passed_over q user other e es true h later =
      let same : user ≡ read e.0 = same_user user (read e.0) (equal _ h) in
      let passed : is_eq (order q (read e.0)) ≡ false = ap (λ (x : List ℕ). is_eq (order q x)) (sym same) ∙ other in
      sym (ap (λ b. cond b (Some e.1) (find order q (listed read es))) passed)
  passed_over q user other e es false h later = ap (cond (is_eq (order q (read e.0))) (Some e.1)) later

  find-removed : (q user : List ℕ) → is_eq (order q user) ≡ false → (entries : List (K × List ℕ))
      → find order q (listed read (remove_entry (is_at (λ key. order user (read key))) entries)) ≡ find order q (listed read entries)
  find-removed q user other [] = refl
  find-removed q user other (e ∷ es) = passed_over q user other e es (is_eq (order user (read e.0))) refl (find-removed q user other es)

  -- an entry less in the tree is a user less in the map
  pub listed-removed : (user : List ℕ) (entries : List (K × List ℕ))
      → lookup (is_at (λ key. order user (read key))) (remove_entry (is_at (λ key. order user (read key))) entries) ≡ None
      → finite.from_entries {R = slice_cmp nat_cmp} (listed read (remove_entry (is_at (λ key. order user (read key))) entries))
      ≡ finite.remove (finite.from_entries (listed read entries)) user
  listed-removed user entries none =
      same_map nat_list_cmp_total same_user _ _ (λ q. by_user q (is_eq (order q user)) refl ∙ sym (get-remove nat_list_cmp_total _ user q)) where
        by_user : (q : List ℕ) (b : Bool) → is_eq (order q user) ≡ b
            → finite.get (finite.from_entries {R = slice_cmp nat_cmp} (listed read (remove_entry (is_at (λ key. order user (read key))) entries))) q
            ≡ cond (is_eq (order q user)) None (finite.get (finite.from_entries {R = slice_cmp nat_cmp} (listed read entries)) q)
        by_user q true h =
            let same : q ≡ user = same_user q user (equal _ h) in
            get-listed q (remove_entry (is_at (λ key. order user (read key))) entries)
            ∙ ap (λ (x : List ℕ). lookup (is_at (λ key. order x (read key))) (remove_entry (is_at (λ key. order user (read key))) entries)) same
            ∙ none ∙ sym (ap (λ b. cond b None (finite.get (finite.from_entries {R = slice_cmp nat_cmp} (listed read entries)) q)) h)
        by_user q false h =
            get-from_entries nat_list_cmp_total _ q ∙ find-removed q user h entries ∙ sym (get-from_entries nat_list_cmp_total _ q)
            ∙ sym (ap (λ b. cond b None (finite.get (finite.from_entries {R = slice_cmp nat_cmp} (listed read entries)) q)) h)

-- a line of a user who is not listed adds it
pub with_new_line : (users : UserList) (line : Option (List ℕ × List ℕ)) (user digest : List ℕ)
    → line ≡ Some (user, digest) → finite.contains_key users user ≡ false → with_line users line ≡ finite.insert users user digest
with_new_line users line user digest is new =
    ap (with_line users) is ∙ ap (λ b. cond b users (finite.insert users user digest)) new
