-- what becomes of a mount's session by itself is what becomes of it among all sessions
use Rattle.std.proofs.Common.{◌≡◌, Bool, true, false, ℕ, Option, Some, None, List, [], ◌∷◌, refl, ap, sym, ◌∙◌}
use Rattle.radio_parts_mount.proofs.Words.{find, if◌then◌else◌, option_map, update_first, find_here, find_later, find_same, changed_alike, Listener, Session, is_of, session_of, longer, fed, end_in, with_its_session}

-- where no element is found, none changes
module _ {X : Type 0} (p : X → Bool) (f : X → X) where
  none_at : (x : X) (xs : List X) (b : Bool) → p x ≡ b → find p (x ∷ xs) ≡ None → (find p xs ≡ None → update_first p f xs ≡ xs)
      → (if b then f x ∷ xs else x ∷ update_first p f xs) ≡ x ∷ xs
  none_at x xs true e none later = let here : find p (x ∷ xs) ≡ Some x = find_here p x xs e in cc
  none_at x xs false e none later = ap (λ ys. x ∷ ys) (later (sym (find_later p x xs e) ∙ none))

  pub none_changes : (xs : List X) → find p xs ≡ None → update_first p f xs ≡ xs
  none_changes [] none = refl
  none_changes (x ∷ xs) none = none_at x xs (p x) refl none (none_changes xs)

module _ (live : List Session) (mount : List ℕ) (f : Session → Session) where
  abbrev has_changed : List Session
  has_changed = update_first (is_of mount) f live

  pub in_its_place : (listeners : List Listener)
      → with_its_session live (record { mount = mount; session = option_map f (session_of live mount); listeners = listeners }) ≡ has_changed
  in_its_place listeners = by_found (session_of live mount) refl where
    by_found : (found : Option Session) → session_of live mount ≡ found
        → with_its_session live (record { mount = mount; session = option_map f found; listeners = listeners }) ≡ has_changed
    by_found None none = sym (none_changes (is_of mount) f live none)
    by_found (Some session) has = changed_alike (is_of mount) (λ other. f session) f session refl live has

  pub found_changed : ((session : Session) → is_of mount (f session) ≡ is_of mount session)
      → session_of has_changed mount ≡ option_map f (session_of live mount)
  found_changed same = by_found (session_of live mount) refl where
    by_found : (found : Option Session) → session_of live mount ≡ found → session_of has_changed mount ≡ option_map f found
    by_found None none = ap (λ sessions. session_of sessions mount) (none_changes (is_of mount) f live none) ∙ none
    by_found (Some session) has = find_same (is_of mount) f same live session has

-- so much has come at the mount
pub end_received : (live : List Session) (mount block : List ℕ) (moment : ℕ)
    → end_in (option_map (longer block moment) (session_of live mount)) ≡ end_in (session_of (fed live mount block moment) mount)
end_received live mount block moment = ap end_in (sym (found_changed live mount (longer block moment) (λ session. refl)))
