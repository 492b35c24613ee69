-- how far streams go, after each change
use Rattle.std.proofs.Common.{◌≡◌, Bool, true, false, ℕ, ◌≤◌, max, Option, Some, None, List, [], ◌∷◌, refl, ap, ◌∙◌, arith}
use Rattle.radio_parts_mount.proofs.Words.{find, if◌then◌else◌, not, update_first, Each, Each_each, Each_kept, Each_placed, Each_updated, find_here, find_later, find_same, found_has, longer_kept, kept_fed, Session}
use Rattle.radio_parts_mount.proofs.Words.{GoNoFurther, is_of, session_of, by_mount, opened, with_session, with_title, titled, without_session, end_in, end_of}
use Rattle.radio_values.specs.declared.field.Shown.{Shown}

-- what holds of each element, and of what becomes of the one that is found, holds of each afterwards
module _ {X : Type 0} (P : X → Type 0) (p : X → Bool) (f : X → X) where
  found_at : (x : X) (xs : List X) (b : Bool) → p x ≡ b → ((y : X) → find p (x ∷ xs) ≡ Some y → P (f y)) → P x → Each P xs
      → (((y : X) → find p xs ≡ Some y → P (f y)) → Each P (update_first p f xs)) → Each P (if b then f x ∷ xs else x ∷ update_first p f xs)
  found_at x xs true e changed here all later = (changed x (find_here p x xs e), all)
  found_at x xs false e changed here all later = (here, later (λ y h. changed y (find_later p x xs e ∙ h)))

  Each_changed : (xs : List X) → ((y : X) → find p xs ≡ Some y → P (f y)) → Each P xs → Each P (update_first p f xs)
  Each_changed [] changed all = tt
  Each_changed (x ∷ xs) changed all = found_at x xs (p x) refl changed all.0 all.1 (λ h. Each_changed xs h all.1)

module _ (furthest : ℕ) (live : List Session) (far : GoNoFurther furthest live) where
  -- what is looked up goes no further either
  pub end_within : (mount : List ℕ) → end_in (session_of live mount) ≤ furthest
  end_within mount = by_found (session_of live mount) refl where
    by_found : (found : Option Session) → session_of live mount ≡ found → end_in found ≤ furthest
    by_found None e = omega arith
    by_found (Some session) e = found_has (is_of mount) (λ (x : Session). end_of x.stream ≤ furthest) live session far e

  pub opened_within : (mount : List ℕ) (number : ℕ) (shown : Shown) (moment : ℕ)
      → GoNoFurther furthest (with_session live (opened mount number shown moment))
  opened_within mount number shown moment =
      Each_placed (λ (x : Session). end_of x.stream ≤ furthest) by_mount (opened mount number shown moment) live (omega arith) far

  pub closed_within : (mount : List ℕ) → GoNoFurther furthest (without_session live mount)
  closed_within mount =
      Each_kept (λ (x : Session). end_of x.stream ≤ furthest) (λ (x : Session). end_of x.stream ≤ furthest) (λ (x : Session). not (is_of mount x))
      (λ x within kept. within) live far

  pub titled_within : (mount title : List ℕ) → GoNoFurther furthest (titled live mount title)
  titled_within mount title =
      Each_updated (λ (x : Session). end_of x.stream ≤ furthest) (is_of mount) (with_title (Some title)) (λ x within. within) live far

  -- the session that has delivered a block is the one that may go further now
  pub delivered_within : (limit : ℕ) (mount block : List ℕ) (moment end : ℕ) → end ≡ end_in (session_of (kept_fed limit live mount block moment) mount)
      → GoNoFurther (max furthest end) (kept_fed limit live mount block moment)
  delivered_within limit mount block moment end is =
      Each_changed (λ (x : Session). end_of x.stream ≤ max furthest end) (is_of mount) (longer_kept limit block moment) live
      (λ session there.
      let now : end ≡ end_of (longer_kept limit block moment session).stream =
      is ∙ ap end_in (find_same (is_of mount) (longer_kept limit block moment) (λ x. refl) live session there) in
      omega (arith, now))
      (Each_each (λ (x : Session). end_of x.stream ≤ furthest) (λ (x : Session). end_of x.stream ≤ max furthest end) (λ x within. omega (arith, within))
      live far)
