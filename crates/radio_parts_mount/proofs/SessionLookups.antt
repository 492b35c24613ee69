-- what is found among sessions after each change
use Rattle.std.proofs.Common.{◌≡◌, Bool, true, false, ℕ, Some, None, List, refl, ap, ◌∙◌}
use Rattle.radio_parts_mount.proofs.Words.{if◌then◌else◌, nat_cmp, slice_cmp, bytes_eq, bytes_eq-Decides, find_same, find_apart, find_removed, find_others, found_passes, name_is, find_placed, Session, is_of, session_of}
use Rattle.radio_parts_mount.proofs.Words.{with_session, longer, fed, with_title, titled, without_session}
use Rattle.std.proofs.lemmas.Cmp.{nat_list_cmp_total}

-- a choice whose test is known
pub chosen : {X : Type 0} {b : Bool} (x y : X) → b ≡ true → (if b then x else y) ≡ x
chosen x y e = rw e refl

pub passed : {X : Type 0} {b : Bool} (x y : X) → b ≡ false → (if b then x else y) ≡ y
passed x y e = rw e refl

-- a session bears its mount's name
pub named : (mount : List ℕ) (session : Session) → is_of mount session ≡ true → session.mount ≡ mount
named mount session e = (bytes_eq-Decides session.mount mount).0 e

pub found_named : (live : List Session) (mount : List ℕ) (session : Session) → session_of live mount ≡ Some session → session.mount ≡ mount
found_named live mount session e = named mount session (found_passes (is_of mount) live session e)

module _ (live : List Session) (mount other : List ℕ) (apart : bytes_eq mount other ≡ false) where
  not_named : (session : Session) → is_of mount session ≡ true → is_of other session ≡ false
  not_named session e = ap (λ name. bytes_eq name other) (named mount session e) ∙ apart

  pub beside_fed : (block : List ℕ) (moment : ℕ) → session_of (fed live mount block moment) other ≡ session_of live other
  beside_fed block moment = find_apart (is_of other) (is_of mount) (longer block moment) (λ x e. (not_named x e, not_named x e)) live

  pub beside_titled : (text : List ℕ) → session_of (titled live mount text) other ≡ session_of live other
  beside_titled text = find_apart (is_of other) (is_of mount) (with_title (Some text)) (λ x e. (not_named x e, not_named x e)) live

  pub beside_ended : session_of (without_session live mount) other ≡ session_of live other
  beside_ended = find_others (is_of other) (is_of mount) not_named live

pub is_longer : (live : List Session) (mount block : List ℕ) (moment : ℕ) (session : Session) → session_of live mount ≡ Some session
    → session_of (fed live mount block moment) mount ≡ Some (longer block moment session)
is_longer live mount block moment session e = find_same (is_of mount) (longer block moment) (λ x. refl) live session e

pub is_titled : (live : List Session) (mount text : List ℕ) (session : Session) → session_of live mount ≡ Some session
    → session_of (titled live mount text) mount ≡ Some (with_title (Some text) session)
is_titled live mount text session e = find_same (is_of mount) (with_title (Some text)) (λ x. refl) live session e

pub is_over : (live : List Session) (mount : List ℕ) → session_of (without_session live mount) mount ≡ None
is_over live mount = find_removed (is_of mount) (is_of mount) live

module _ (live : List Session) (new : Session) (mount : List ℕ) where
  looked_up_session : session_of (with_session live new) mount ≡ (if bytes_eq new.mount mount then Some new else session_of live mount)
  looked_up_session = find_placed (slice_cmp nat_cmp) nat_list_cmp_total (λ (session : Session). session.mount) is_of
      (λ k session. name_is k session.mount) mount new live

  pub is_new_session : bytes_eq new.mount mount ≡ true → session_of (with_session live new) mount ≡ Some new
  is_new_session e = looked_up_session ∙ chosen (Some new) (session_of live mount) e

  pub beside_begun : bytes_eq new.mount mount ≡ false → session_of (with_session live new) mount ≡ session_of live mount
  beside_begun e = looked_up_session ∙ passed (Some new) (session_of live mount) e
