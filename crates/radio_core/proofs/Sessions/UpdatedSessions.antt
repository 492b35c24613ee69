-- what is found where the session of a mount has changed
use Rattle.std.proofs.Common.{◌≡◌, Bool, true, false, Option, Some, None, List, [], ◌∷◌, ℕ, refl, ap, sym, ◌∙◌}
use Rattle.radio_core.proofs.Words.{if◌then◌else◌, option_map, bytes_eq, update_first, find_here, find_later, by_name, Session, is_of, session_of}

module _ (live : List Session) (mount : List ℕ) (f : Session → Session) (same_test : (x : Session) → is_of mount (f x) ≡ is_of mount x) where
  updated_at : (x : Session) (xs : List Session) (his : Bool) → is_of mount x ≡ his
      → session_of (update_first (is_of mount) f xs) mount ≡ option_map f (session_of xs mount)
      → session_of (if his then f x ∷ xs else x ∷ update_first (is_of mount) f xs) mount ≡ option_map f (if his then Some x else session_of xs mount)
  updated_at x xs true e later = find_here (is_of mount) (f x) xs (same_test x ∙ e)
  updated_at x xs false e later = find_later (is_of mount) x (update_first (is_of mount) f xs) e ∙ later

  updated_in : (xs : List Session) → session_of (update_first (is_of mount) f xs) mount ≡ option_map f (session_of xs mount)
  updated_in [] = refl
  updated_in (x ∷ xs) = updated_at x xs (is_of mount x) refl (updated_in xs)

  pub session_updated : {A : Type 0} (other : List ℕ) (now : Session)
      → (bytes_eq mount other ≡ false → session_of (update_first (is_of mount) f live) other ≡ session_of live other)
      → session_of (update_first (is_of mount) f live) other ≡ Some now
      → ((old : Session) → mount ≡ other → session_of live other ≡ Some old → f old ≡ now → A) → (session_of live other ≡ Some now → A) → A
  session_updated {A} other now beside e new same_as =
      by_name mount other
      (λ same. by_found same (session_of live mount) refl (sym (updated_in live) ∙ ap (session_of (update_first (is_of mount) f live)) same ∙ e))
      (λ apart. same_as (sym (beside apart) ∙ e)) where
        by_found : mount ≡ other → (found : Option Session) → session_of live mount ≡ found → option_map f (session_of live mount) ≡ Some now → A
        by_found same None none is = let nothing : option_map f (session_of live mount) ≡ None = ap (option_map f) none in cc
        by_found same (Some old) found is =
            let both : Some (f old) ≡ Some now = sym (ap (option_map f) found) ∙ is in
            let one : f old ≡ now = cc in
            new old same (ap (session_of live) (sym same) ∙ found) one
