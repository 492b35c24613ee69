-- live mounts are prepared, after each change of the sessions and of the table
use Rattle.std.proofs.Common.{◌≡◌, Bool, true, false, ℕ, ◌||◌, Some, None, List, [], ◌∷◌, not, refl, ap, sym, ◌∙◌}
use Rattle.radio_parts_mount.proofs.Words.{◌&&◌, find, is_some, if◌then◌else◌, bytes_eq, bytes_eq-Decides, update_first, by_name, Session, is_of, session_of, with_session, without_session}
use Rattle.radio_seats_rows.specs.SeatTable.{is_prepared}
use Rattle.radio_parts_mount.specs.Prepared.{LiveArePrepared}
use Rattle.radio_parts_mount.proofs.SessionLookups.{is_over, beside_ended, beside_begun}

-- no mount is live that was not, and no other is prepared
pub still_prepared : (live later : List Session) (prepared more : List (List ℕ)) → later ≡ live → more ≡ prepared → LiveArePrepared live prepared
    → LiveArePrepared later more
still_prepared live later prepared more same_live same are = record {
  each = λ mount lives.
      ap (λ (names : List (List ℕ)). is_prepared names mount) same
      ∙ are.each mount (ap (λ (sessions : List Session). is_some (session_of sessions mount)) (sym same_live) ∙ lives);
}

-- one of some kind has changed, and is found as before
found_at : {X : Type 0} (p q : X → Bool) (f : X → X) (x : X) (xs : List X) (b : Bool) → p (f x) ≡ p x
    → is_some (find p (update_first q f xs)) ≡ is_some (find p xs)
    → is_some (find p (if b then f x ∷ xs else x ∷ update_first q f xs)) ≡ is_some (if p x then Some x else find p xs)
found_at p q f x xs true same later = rw same (by_test (p x)) where
  by_test : (c : Bool) → is_some (if c then Some (f x) else find p xs) ≡ is_some (if c then Some x else find p xs)
  by_test true = refl
  by_test false = refl
found_at p q f x xs false same later = by_test (p x) where
  by_test : (c : Bool) → is_some (if c then Some x else find p (update_first q f xs)) ≡ is_some (if c then Some x else find p xs)
  by_test true = refl
  by_test false = later

found_still : {X : Type 0} (p q : X → Bool) (f : X → X) → ((x : X) → p (f x) ≡ p x) → (xs : List X)
    → is_some (find p (update_first q f xs)) ≡ is_some (find p xs)
found_still p q f same [] = refl
found_still p q f same (x ∷ xs) = found_at p q f x xs (q x) (same x) (found_still p q f same xs)

-- a session that changes is of the same mount
pub changed_prepared : (live later : List Session) (prepared : List (List ℕ)) (mount : List ℕ) (f : Session → Session)
    → ((session : Session) → (f session).mount ≡ session.mount) → later ≡ update_first (is_of mount) f live
    → LiveArePrepared live prepared → LiveArePrepared later prepared
changed_prepared live later prepared mount f same is are = record {
  each = λ other lives.
      are.each other (sym (found_still (is_of other) (is_of mount) f (λ session. ap (λ n. bytes_eq n other) (same session)) live)
      ∙ ap (λ (sessions : List Session). is_some (session_of sessions other)) (sym is) ∙ lives);
}

-- a session that begins is of a mount that was prepared
pub begun_prepared : (live later : List Session) (old prepared : List (List ℕ)) (session : Session) → later ≡ with_session live session
    → ((mount : List ℕ) → is_prepared prepared mount ≡ (is_prepared old mount || bytes_eq session.mount mount))
    → LiveArePrepared live old → LiveArePrepared later prepared
begun_prepared live later old prepared session is more are = record {
  each = λ mount lives. more mount ∙ by_name session.mount mount
      (λ same. rw ((bytes_eq-Decides session.mount mount).1 same) (or_true (is_prepared old mount)))
      (λ apart.
      rw (are.each mount (ap is_some (sym (beside_begun live session mount apart)) ∙ ap (λ (sessions : List Session). is_some (session_of sessions mount)) (sym is)
      ∙ lives)) refl);
} where
  or_true : (b : Bool) → (b || true) ≡ true
  or_true true = refl
  or_true false = refl

-- more is prepared than was
pub more_prepared : (live : List Session) (old prepared : List (List ℕ)) (name : List ℕ)
    → ((mount : List ℕ) → is_prepared prepared mount ≡ (is_prepared old mount || bytes_eq name mount)) → LiveArePrepared live old
    → LiveArePrepared live prepared
more_prepared live old prepared name more are = record { each = λ mount lives. more mount ∙ rw (are.each mount lives) refl }

-- a mount that is not live is released, if no listener sits there or sat there last
pub idle_released : (live : List Session) (old prepared : List (List ℕ)) (name : List ℕ) (nobody : Bool) → session_of live name ≡ None
    → ((mount : List ℕ) → is_prepared prepared mount ≡ (is_prepared old mount && not (bytes_eq name mount && nobody)))
    → LiveArePrepared live old → LiveArePrepared live prepared
idle_released live old prepared name nobody idle released are = record {
  each = λ mount lives. released mount ∙ by_name name mount
      (λ same.
      let none : is_some (session_of live mount) ≡ false = ap is_some (ap (session_of live) (sym same) ∙ idle) in
      cc)
      (λ apart. rw (are.each mount lives, apart) refl);
}

-- where a session has ended fewer mounts are live
pub ended_prepared : (live later : List Session) (prepared : List (List ℕ)) (mount : List ℕ) → later ≡ without_session live mount
    → LiveArePrepared live prepared → LiveArePrepared later prepared
ended_prepared live later prepared mount is are = record {
  each = λ other lives.
      let found = ap (λ (sessions : List Session). is_some (session_of sessions other)) (sym is) ∙ lives in
      by_name mount other
      (λ same.
      let none : is_some (session_of (without_session live mount) other) ≡ false
      = ap (λ n. is_some (session_of (without_session live mount) n)) (sym same) ∙ ap is_some (is_over live mount) in
      cc)
      (λ apart. are.each other (ap is_some (sym (beside_ended live mount other apart)) ∙ found));
}
