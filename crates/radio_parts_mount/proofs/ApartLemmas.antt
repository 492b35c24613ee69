-- sessions of mounts of which no two are the same, before and after a change of the list
use Rattle.std.proofs.Common.{◌≡◌, Bool, true, false, ℕ, Some, None, List, [], ◌∷◌, refl, ap, sym, subst, ◌∙◌}
use Rattle.radio_parts_mount.proofs.Words.{find, filter, if◌then◌else◌, bytes_eq, Ordering, Less, Equal, Greater, match_ordering, bytes_eq-Decides, update_first, placed, Each, Each_each, Each_kept, Each_updated}
use Rattle.radio_parts_mount.proofs.Words.{Each_placed, find_here, find_later, found_has, passes_none, by_name, Session, is_of, session_of, by_mount, with_session, AreApart}

pub bytes_apart : (a b : List ℕ) → bytes_eq a b ≡ false → bytes_eq b a ≡ false
bytes_apart a b e = by_name b a (λ same. let there : bytes_eq a b ≡ true = (bytes_eq-Decides a b).1 (sym same) in cc) (λ apart. apart)

-- the session is of another mount than these
abbrev IsBeside : Session → List Session → Type 0
IsBeside session live = Each (λ (other : Session). bytes_eq session.mount other.mount ≡ false) live

module _ (new : Session) where
  placed_apart_at : (x : Session) (live : List Session) (o : Ordering) → IsBeside new (x ∷ live) → AreApart (x ∷ live) → AreApart (placed by_mount new live)
      → AreApart (match_ordering o (new ∷ x ∷ live) (new ∷ live) (x ∷ placed by_mount new live))
  placed_apart_at x live Less free apart later = (free, apart)
  placed_apart_at x live Equal free apart later = (free.1, apart.1)
  placed_apart_at x live Greater free apart later =
      (Each_placed (λ (other : Session). bytes_eq x.mount other.mount ≡ false) by_mount new live (bytes_apart new.mount x.mount free.0) apart.0, later)

  placed_apart : (live : List Session) → IsBeside new live → AreApart live → AreApart (placed by_mount new live)
  placed_apart [] free apart = (tt, tt)
  placed_apart (x ∷ live) free apart = placed_apart_at x live (by_mount new x) free apart (placed_apart live free.1 apart.1)

  pub begun_apart : (live : List Session) → session_of live new.mount ≡ None → AreApart live → AreApart (with_session live new)
  begun_apart live none apart =
      placed_apart live (Each_each (λ (other : Session). is_of new.mount other ≡ false) (λ (other : Session). bytes_eq new.mount other.mount ≡ false)
      (λ other e. bytes_apart other.mount new.mount e) live (passes_none (is_of new.mount) live none)) apart

module _ (p : Session → Bool) (f : Session → Session) (keeps : (x : Session) → (f x).mount ≡ x.mount) where
  updated_apart_at : (x : Session) (live : List Session) (b : Bool) → AreApart (x ∷ live) → AreApart (update_first p f live)
      → AreApart (if b then f x ∷ live else x ∷ update_first p f live)
  updated_apart_at x live true apart later =
      (subst (λ (m : List ℕ). Each (λ (other : Session). bytes_eq m other.mount ≡ false) live) (sym (keeps x)) apart.0, apart.1)
  updated_apart_at x live false apart later =
      (Each_updated (λ (other : Session). bytes_eq x.mount other.mount ≡ false) p f (λ other e. ap (bytes_eq x.mount) (keeps other) ∙ e) live apart.0, later)

  pub updated_apart : (live : List Session) → AreApart live → AreApart (update_first p f live)
  updated_apart [] apart = tt
  updated_apart (x ∷ live) apart = updated_apart_at x live (p x) apart (updated_apart live apart.1)

module _ (p : Session → Bool) where
  kept_apart_at : (x : Session) (live : List Session) (b : Bool) → AreApart (x ∷ live) → AreApart (filter p live)
      → AreApart (if b then x ∷ filter p live else filter p live)
  kept_apart_at x live true apart later = (
    Each_kept (λ (other : Session). bytes_eq x.mount other.mount ≡ false) (λ (other : Session). bytes_eq x.mount other.mount ≡ false) p (λ other e k. e)
        live apart.0,
    later,
  )
  kept_apart_at x live false apart later = later

  pub kept_apart : (live : List Session) → AreApart live → AreApart (filter p live)
  kept_apart [] apart = tt
  kept_apart (x ∷ live) apart = kept_apart_at x live (p x) apart (kept_apart live apart.1)

  -- a session that is found is the one of its mount
  pub own_mount : (session : Session) → is_of session.mount session ≡ true
  own_mount session = (bytes_eq-Decides session.mount session.mount).1 refl

  found_own_at : (x : Session) (live : List Session) (session : Session) (b : Bool) → p x ≡ b → AreApart (x ∷ live)
      → (find p live ≡ Some session → session_of live session.mount ≡ Some session) → find p (x ∷ live) ≡ Some session
      → session_of (x ∷ live) session.mount ≡ Some session
  found_own_at x live session true e apart later found =
      let one : Some x ≡ Some session = sym (find_here p x live e) ∙ found in
      let same : x ≡ session = cc in
      subst (λ (y : Session). session_of (x ∷ live) y.mount ≡ Some y) same (find_here (is_of x.mount) x live (own_mount x))
  found_own_at x live session false e apart later found =
      let behind : find p live ≡ Some session = sym (find_later p x live e) ∙ found in
      let away = found_has p (λ (other : Session). bytes_eq x.mount other.mount ≡ false) live session apart.0 behind in
      find_later (is_of session.mount) x live away ∙ later behind

  pub found_own : (live : List Session) (session : Session) → AreApart live → find p live ≡ Some session → session_of live session.mount ≡ Some session
  found_own [] session apart found = cc
  found_own (x ∷ live) session apart found = found_own_at x live session (p x) refl apart (found_own live session apart.1) found
