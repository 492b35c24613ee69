-- the first of the sessions that pass a test is found, and when it has ended the others are left
use Rattle.std.proofs.Common.{◌≡◌, Bool, true, false, ℕ, Some, List, [], ◌∷◌, not, refl, ap, sym, ◌∙◌}
use Rattle.radio_parts_mount.proofs.Words.{find, filter, map, if◌then◌else◌, slice_cmp, AllByRecursion, IsStrictlySortedBy, is_eq, nat_cmp, Less, bytes_eq, Each, find_here, find_later, name_is, Session, AreApart, is_of}
use Rattle.radio_parts_mount.proofs.Words.{without_session}
use Rattle.radio_parts_mount.proofs.ApartLemmas.{bytes_apart, own_mount}

-- sessions in the order of their mounts are of different ones
beside_rising : (mount : List ℕ) (live : List Session)
    → AllByRecursion (λ name. slice_cmp nat_cmp mount name ≡ Less) (map (λ (session : Session). session.mount) live)
    → Each (λ (other : Session). bytes_eq mount other.mount ≡ false) live
beside_rising mount [] all = tt
beside_rising mount (x ∷ live) all = (bytes_apart x.mount mount (name_is mount x.mount ∙ ap is_eq all.0), beside_rising mount live all.1)

pub rising_apart : (live : List Session) → IsStrictlySortedBy (slice_cmp nat_cmp) (map (λ (session : Session). session.mount) live) → AreApart live
unfolding IsStrictlySortedBy
rising_apart [] rising = tt
rising_apart (x ∷ live) rising = (beside_rising x.mount live rising.0, rising_apart live rising.1)

module _ {X : Type 0} (p : X → Bool) where
  -- the first of those that pass is found
  first_at : (a : X) (xs : List X) (x : X) (rest : List X) (b : Bool) → p a ≡ b → (filter p xs ≡ x ∷ rest → find p xs ≡ Some x)
      → (if b then a ∷ filter p xs else filter p xs) ≡ x ∷ rest → find p (a ∷ xs) ≡ Some x
  first_at a xs x rest true e later h = let same : a ≡ x = cc in find_here p a xs e ∙ ap (λ y. Some y) same
  first_at a xs x rest false e later h = find_later p a xs e ∙ later h

  pub found_first : (xs : List X) (x : X) (rest : List X) → filter p xs ≡ x ∷ rest → find p xs ≡ Some x
  found_first [] x rest h = cc
  found_first (a ∷ xs) x rest h = first_at a xs x rest (p a) refl (found_first xs x rest) h

  -- where none passes none is left, and the other way round
  pub none_pass : (xs : List X) → Each (λ x. p x ≡ false) xs → filter p xs ≡ []
  none_pass [] all = refl
  none_pass (x ∷ xs) all = rw all.0 (none_pass xs all.1)

  no_pass_at : (a : X) (xs : List X) (b : Bool) → p a ≡ b → (filter p xs ≡ [] → Each (λ x. p x ≡ false) xs)
      → (if b then a ∷ filter p xs else filter p xs) ≡ [] → Each (λ x. p x ≡ false) (a ∷ xs)
  no_pass_at a xs true e later h = cc
  no_pass_at a xs false e later h = (e, later h)

  pub no_pass : (xs : List X) → filter p xs ≡ [] → Each (λ x. p x ≡ false) xs
  no_pass [] h = tt
  no_pass (a ∷ xs) h = no_pass_at a xs (p a) refl (no_pass xs) h

-- where the mount has no session, none ends
none_ends : (mount : List ℕ) (live : List Session) → Each (λ (other : Session). bytes_eq mount other.mount ≡ false) live → without_session live mount ≡ live
none_ends mount [] all = refl
none_ends mount (x ∷ live) all = rw (bytes_apart mount x.mount all.0) (ap (λ (t : List Session). x ∷ t) (none_ends mount live all.1))

module _ (p : Session → Bool) where
  -- when the first of those that pass has ended, the others that pass are left
  passed_over : (a : Session) (live : List Session) (b : Bool) → p a ≡ false → filter p (if b then a ∷ live else live) ≡ filter p live
  passed_over a live true e = rw e refl
  passed_over a live false e = refl

  left_at : (a : Session) (live : List Session) (session : Session) (b : Bool) → p a ≡ b → AreApart (a ∷ live)
      → (find p live ≡ Some session → filter p live ≡ session ∷ filter p (without_session live session.mount)) → find p (a ∷ live) ≡ Some session
      → filter p (a ∷ live) ≡ session ∷ filter p (without_session (a ∷ live) session.mount)
  left_at a live session true e apart later found =
      let here : Some a ≡ Some session = sym (find_here p a live e) ∙ found in
      let same : a ≡ session = cc in
      kept_first a live e
      ∙ ap (λ (t : List Session). a ∷ filter p t) (sym (ends_first a live apart))
      ∙ ap (λ (x : Session). x ∷ filter p (without_session (a ∷ live) x.mount)) same where
        kept_first : (x : Session) (xs : List Session) → p x ≡ true → filter p (x ∷ xs) ≡ x ∷ filter p xs
        kept_first x xs passes = rw passes refl

        ends_first : (x : Session) (xs : List Session) → AreApart (x ∷ xs) → without_session (x ∷ xs) x.mount ≡ xs
        ends_first x xs away = rw (own_mount p x) (none_ends x.mount xs away.0)
  left_at a live session false e apart later found =
      passed_over a live true e ∙ later (sym (find_later p a live e) ∙ found)
      ∙ ap (λ (t : List Session). session ∷ t) (sym (passed_over a (without_session live session.mount) (not (is_of session.mount a)) e))

  pub others_left : (live : List Session) (session : Session) → AreApart live → find p live ≡ Some session
      → filter p live ≡ session ∷ filter p (without_session live session.mount)
  others_left [] session apart found = cc
  others_left (a ∷ live) session apart found = left_at a live session (p a) refl apart (others_left live session apart.1) found
