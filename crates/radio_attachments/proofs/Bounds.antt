-- no place is less than a bound
use Rattle.std.proofs.Common.{◌≡◌, ◌≤◌, ◌-◌, ℕ, Bool, true, false, Option, None, Some, List, [], ◌∷◌, refl, sym, subst, arith}
use Rattle.std.specs.Prelude.{filter, find, if◌then◌else◌}
use Rattle.std.proofs.lemmas.Bool.Decides.{nat_tests}
use Rattle.radio_tables.specs.Lists.{Each, update_first}
use Rattle.radio_tables.proofs.EachLaws.{Each_each, Each_updated}
use Rattle.radio_tables.proofs.FindLaws.{found_has}
use Rattle.radio_attachments.specs.declared.attachment.Attachment.{Attachment}
use Rattle.radio_attachments.specs.Rows.{is_attached, at_place, lags, FoundIsVisited, IsVisitedIn}

abbrev pub IsBound : ℕ → List Attachment → Type 0
IsBound least rows = Each (λ (row : Attachment). least ≤ row.place) rows

pub lower_bound : (least other : ℕ) → other ≤ least → (rows : List Attachment) → IsBound least rows → IsBound other rows
lower_bound least other below rows all =
    Each_each (λ (row : Attachment). least ≤ row.place) (λ (row : Attachment). other ≤ row.place) (λ row h. omega (arith, below, h)) rows all

-- a bound of the others and of the new place is one of all
pub placed_bound : (least other id place : ℕ) → other ≤ least → other ≤ place → (rows : List Attachment) → IsBound least rows
    → IsBound other (update_first (is_attached id) (at_place place) rows)
placed_bound least other id place below there rows all =
    Each_updated (λ (x : Attachment). other ≤ x.place) (is_attached id) (at_place place) (λ x h. there) rows (lower_bound least other below rows all)

-- so nobody lags who is within the queue
pub none_lag : (end queue least : ℕ) → end - least ≤ queue → (rows : List Attachment) → IsBound least rows → Each (λ row. lags end queue row ≡ false) rows
none_lag end queue least within rows all =
    Each_each (λ (row : Attachment). least ≤ row.place) (λ row. lags end queue row ≡ false) (λ row h. grind (arith, nat_tests, within, h)) rows all

module _ (p : Attachment → Bool) where
  none_pass_at : (x : Attachment) (xs : List Attachment) (b : Bool) → b ≡ false → filter p xs ≡ [] → (if b then x ∷ filter p xs else filter p xs) ≡ []
  none_pass_at x xs true e later = cc
  none_pass_at x xs false e later = later

  pub none_pass : (xs : List Attachment) → Each (λ row. p row ≡ false) xs → filter p xs ≡ []
  none_pass [] none = refl
  none_pass (x ∷ xs) none = none_pass_at x xs (p x) none.0 (none_pass xs none.1)

-- a visit that does not set a place back keeps the bound
module _ {V A : Type 0} (Visits : V → ℕ → A → V → ℕ → Type 0)
    (goes_on : (visitor visitor' : V) (place place' : ℕ) (answer : A) → Visits visitor place answer visitor' place' → place ≤ place') where
  pub visited_bound : (least id : ℕ) (visitor visitor' : V) (rows rows' : List Attachment) (answer : Option A)
      → IsVisitedIn Visits id visitor rows answer visitor' rows' → IsBound least rows → IsBound least rows'
  visited_bound least id visitor visitor' rows rows' answer visits all = by_found (find (is_attached id) rows) refl visits where
    by_found : (found : Option Attachment) → find (is_attached id) rows ≡ found → FoundIsVisited Visits id visitor rows answer visitor' rows' found
        → IsBound least rows'
    by_found None e (no_answer, stays, is) = subst (IsBound least) (sym is) all
    by_found (Some row) e (a, place, given, is, visited) =
        let before : least ≤ row.place = found_has (is_attached id) (λ (x : Attachment). least ≤ x.place) rows row all e in
        let on = goes_on visitor visitor' row.place place a visited in
        subst (IsBound least) (sym is)
        (Each_updated (λ (x : Attachment). least ≤ x.place) (is_attached id) (at_place place) (λ x h. omega (arith, before, on)) rows all)
