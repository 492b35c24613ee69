-- a relay's row that was put into its place and is put back
use Rattle.std.proofs.Common.{◌≡◌, Bool, true, false, ℕ, Option, Some, None, List, [], ◌∷◌, refl, ap, sym, ◌∙◌, arith}
use Rattle.radio_parts_station.proofs.Words.{map, option_map, nat_cmp, match_ordering, update_first, find_here, find_later, Relay, is_relay, relay_of, doing, with_relay, without_relay, put_back}
use Rattle.std.specs.List.{AllByRecursion}
use Rattle.std.specs.List.Sorted.{IsStrictlySortedBy}
use Rattle.std.specs.declared.cmp.Ordering.{Ordering}
use Rattle.std.specs.declared.cmp.Ordering.TheVariants.{Less, Equal, Greater}
use Rattle.std.proofs.lemmas.Bool.Decides.{nat_tests}

abbrev number_of : Relay → ℕ
number_of relay = relay.id

module _ (new : Relay) where
  abbrev its : Relay → Bool
  its x = is_relay new.id x

  itself : its new ≡ true
  itself = grind (arith, nat_tests)

  -- one that was not there is not there
  all_kept : (xs : List Relay) → relay_of xs new.id ≡ None → without_relay xs new.id ≡ xs
  all_kept [] none = refl
  all_kept (x ∷ xs) none = by_test (all_kept xs) (its x) refl where
    by_test : (relay_of xs new.id ≡ None → without_relay xs new.id ≡ xs) → (b : Bool) → its x ≡ b → without_relay (x ∷ xs) new.id ≡ x ∷ xs
    by_test rest true e = let here : relay_of (x ∷ xs) new.id ≡ Some x = find_here its x xs e in cc
    by_test rest false e = rw e (ap (λ ys. x ∷ ys) (rest (sym (find_later its x xs e) ∙ none)))

  gone_at : (x : Relay) (xs : List Relay) (o : Ordering) → nat_cmp new.id x.id ≡ o → relay_of (x ∷ xs) new.id ≡ None
      → (relay_of xs new.id ≡ None → without_relay (with_relay xs new) new.id ≡ xs)
      → without_relay (match_ordering o (new ∷ x ∷ xs) (new ∷ xs) (x ∷ with_relay xs new)) new.id ≡ x ∷ xs
  gone_at x xs Less e none rest = rw itself (all_kept (x ∷ xs) none)
  gone_at x xs Equal e none rest =
      let same : its x ≡ true = grind (arith, nat_tests) in
      let here : relay_of (x ∷ xs) new.id ≡ Some x = find_here its x xs same in
      cc
  gone_at x xs Greater e none rest =
      let apart : its x ≡ false = grind (arith, nat_tests) in
      rw apart (ap (λ ys. x ∷ ys) (rest (sym (find_later its x xs apart) ∙ none)))

  gone : (xs : List Relay) → relay_of xs new.id ≡ None → without_relay (with_relay xs new) new.id ≡ xs
  gone [] none = rw itself refl
  gone (x ∷ xs) none = gone_at x xs (nat_cmp new.id x.id) refl none (gone xs)

  -- one that was there does what it did
  none_above : (low : ℕ) (xs : List Relay) → AllByRecursion (λ n. nat_cmp low n ≡ Less) (map number_of xs) → nat_cmp new.id low ≡ Less
      → relay_of xs new.id ≡ None
  none_above low [] all e = refl
  none_above low (x ∷ xs) all e =
      let above : nat_cmp low x.id ≡ Less = all.0 in
      let apart : its x ≡ false = grind (arith, nat_tests) in
      find_later its x xs apart ∙ none_above low xs all.1 e

  abbrev Kept : List Relay → Type 0
  Kept xs = (old : Relay) → relay_of xs new.id ≡ Some old → update_first its (doing old.state) (with_relay xs new) ≡ xs

  kept_at : (x : Relay) (xs : List Relay) (o : Ordering) → nat_cmp new.id x.id ≡ o
      → AllByRecursion (λ n. nat_cmp x.id n ≡ Less) (map number_of xs) → Kept xs → (old : Relay) → relay_of (x ∷ xs) new.id ≡ Some old
      → update_first its (doing old.state) (match_ordering o (new ∷ x ∷ xs) (new ∷ xs) (x ∷ with_relay xs new)) ≡ x ∷ xs
  kept_at x xs Less e above rest old found =
      let apart : its x ≡ false = grind (arith, nat_tests) in
      let none : relay_of (x ∷ xs) new.id ≡ None = find_later its x xs apart ∙ none_above x.id xs above e in
      cc
  kept_at x xs Equal e above rest old found =
      let same : its x ≡ true = grind (arith, nat_tests) in
      let one : new.id ≡ x.id = grind (arith, nat_tests) in
      let here : Some x ≡ Some old = sym (find_here its x xs same) ∙ found in
      let is : x ≡ old = cc in
      let back : doing old.state new ≡ x
      = ap (λ (n : ℕ). record { id = n; state = old.state }) one ∙ ap (λ (r : Relay). record { id = x.id; state = r.state }) (sym is) in
      rw itself (ap (λ y. y ∷ xs) back)
  kept_at x xs Greater e above rest old found =
      let apart : its x ≡ false = grind (arith, nat_tests) in
      rw apart (ap (λ ys. x ∷ ys) (rest old (sym (find_later its x xs apart) ∙ found)))

  kept : (xs : List Relay) → IsStrictlySortedBy nat_cmp (map number_of xs) → Kept xs
  unfolding IsStrictlySortedBy
  kept [] rising old found = cc
  kept (x ∷ xs) rising old found = kept_at x xs (nat_cmp new.id x.id) refl rising.0 (kept xs rising.1) old found

  pub restored : (xs : List Relay) → IsStrictlySortedBy nat_cmp (map number_of xs)
      → put_back (with_relay xs new) new.id (option_map (λ (relay : Relay). relay.state) (relay_of xs new.id)) ≡ xs
  restored xs rising = by_found (relay_of xs new.id) refl where
    by_found : (found : Option Relay) → relay_of xs new.id ≡ found
        → put_back (with_relay xs new) new.id (option_map (λ (relay : Relay). relay.state) (relay_of xs new.id)) ≡ xs
    by_found None none =
        ap (λ (before : Option Relay). put_back (with_relay xs new) new.id (option_map (λ (relay : Relay). relay.state) before)) none ∙ gone xs none
    by_found (Some old) found =
        ap (λ (before : Option Relay). put_back (with_relay xs new) new.id (option_map (λ (relay : Relay). relay.state) before)) found
        ∙ kept xs rising old found
