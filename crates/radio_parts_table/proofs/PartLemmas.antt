-- the parts, after the session of one has changed
use Rattle.std.proofs.Common.{◌≡◌, Bool, true, false, ℕ, max, Option, Some, None, List, [], ◌∷◌, refl, ap, sym, subst, ◌∙◌, ◌≤◌, arith}
use Rattle.radio_parts_table.proofs.Words.{find, is_some, if◌then◌else◌, option_map, bytes_eq, bytes_eq-Decides, update_first, Each_each, Each_updated, Each_placed, longer_kept, kept_fed, end_in, Session, GoNoFurther}
use Rattle.radio_parts_table.proofs.Words.{is_of, by_mount, session_of, with_session, with_title, without_session, end_of, closed_within, titled_within, delivered_within, MountPart, live_in, IsNamed, AreNamed, ByMount}
use Rattle.radio_parts_table.proofs.Words.{by_mount_of, with_live, attached_in, has_part, is_part_of, with_session_in, with_session_changed, MountAttachments, attached_to}
use Rattle.radio_parts_table.proofs.LiveLemmas.{AreRising, session_changed, session_ended, session_begun}

-- no session goes further, and each has the name of its mount
abbrev pub AreWhole : ℕ → List MountPart → Type 0
AreWhole furthest parts = GoNoFurther furthest (live_in parts) × AreNamed parts

-- a part that changes is seen to change
module _ (p : MountPart → Bool) (q : MountAttachments → Bool) (f : MountPart → MountPart) (g : MountAttachments → MountAttachments)
    (test : (part : MountPart) → q (attached_to part) ≡ p part) (shown : (part : MountPart) → attached_to (f part) ≡ g (attached_to part)) where
  seen_at : (part : MountPart) (parts : List MountPart) (b : Bool) → p part ≡ b → attached_in (update_first p f parts) ≡ update_first q g (attached_in parts)
      → attached_in (if b then f part ∷ parts else part ∷ update_first p f parts) ≡ update_first q g (attached_to part ∷ attached_in parts)
  seen_at part parts true e later =
      ap (λ row. row ∷ attached_in parts) (shown part) ∙ sym (here (test part ∙ e)) where
        here : q (attached_to part) ≡ true → update_first q g (attached_to part ∷ attached_in parts) ≡ g (attached_to part) ∷ attached_in parts
        here passes = rw passes refl
  seen_at part parts false e later =
      ap (λ rows. attached_to part ∷ rows) later ∙ sym (past (test part ∙ e)) where
        past : q (attached_to part) ≡ false → update_first q g (attached_to part ∷ attached_in parts) ≡ attached_to part ∷ update_first q g (attached_in parts)
        past fails = rw fails refl

  pub attached_changed : (parts : List MountPart) → attached_in (update_first p f parts) ≡ update_first q g (attached_in parts)
  attached_changed [] = refl
  attached_changed (part ∷ parts) = seen_at part parts (p part) refl (attached_changed parts)

-- or to be as it was
module _ (p : MountPart → Bool) (f : MountPart → MountPart) (same : (part : MountPart) → attached_to (f part) ≡ attached_to part) where
  alike_at : (part : MountPart) (parts : List MountPart) (b : Bool) → attached_in (update_first p f parts) ≡ attached_in parts
      → attached_in (if b then f part ∷ parts else part ∷ update_first p f parts) ≡ attached_in (part ∷ parts)
  alike_at part parts true later = ap (λ row. row ∷ attached_in parts) (same part)
  alike_at part parts false later = ap (λ rows. attached_to part ∷ rows) later

  pub attached_alike : (parts : List MountPart) → attached_in (update_first p f parts) ≡ attached_in parts
  attached_alike [] = refl
  attached_alike (part ∷ parts) = alike_at part parts (p part) (attached_alike parts)

-- a part is there if it is seen to be
module _ (mount : List ℕ) where
  part_at : (part : MountPart) (parts : List MountPart) (b : Bool) → is_some (find (is_part_of mount) parts) ≡ has_part (attached_in parts) mount
      → is_some (if b then Some part else find (is_part_of mount) parts)
      ≡ is_some (if b then Some (attached_to part) else find (λ (row : MountAttachments). bytes_eq row.mount mount) (attached_in parts))
  part_at part parts true later = refl
  part_at part parts false later = later

  pub has_its_part : (parts : List MountPart) → is_some (find (is_part_of mount) parts) ≡ has_part (attached_in parts) mount
  has_its_part [] = refl
  has_its_part (part ∷ parts) = part_at part parts (is_part_of mount part) (has_its_part parts)

-- names stay with a change that leaves the session's
module _ (p : MountPart → Bool) (f : Session → Session) (same : (session : Session) → (f session).mount ≡ session.mount) where
  named_still : (mount : List ℕ) (found : Option Session) → IsNamed mount found → IsNamed mount (option_map f found)
  named_still mount None named = tt
  named_still mount (Some session) named = same session ∙ named

  pub changed_named : (parts : List MountPart) → AreNamed parts → AreNamed (update_first p (with_session_changed f) parts)
  changed_named parts named =
      Each_updated (λ (part : MountPart). IsNamed part.mount part.session) p (with_session_changed f) (λ part is. named_still part.mount part.session is) parts named

module _ (mount : List ℕ) (furthest : ℕ) (parts : List MountPart) (rising : AreRising parts) (whole : AreWhole furthest parts) where
  pub ended_whole : AreWhole furthest (update_first (is_part_of mount) (with_session_in None) parts)
  ended_whole = (
    subst (GoNoFurther furthest) (sym (session_ended mount parts whole.1 rising)) (closed_within furthest (live_in parts) whole.0 mount),
    Each_updated (λ (part : MountPart). IsNamed part.mount part.session) (is_part_of mount) (with_session_in None) (λ part is. tt) parts whole.1,
  )

  pub titled_whole : (title : List ℕ) → AreWhole furthest (update_first (is_part_of mount) (with_session_changed (with_title (Some title))) parts)
  titled_whole title = (
    subst (GoNoFurther furthest) (sym (session_changed mount (with_title (Some title)) parts whole.1 rising))
        (titled_within furthest (live_in parts) whole.0 mount title),
    changed_named (is_part_of mount) (with_title (Some title)) (λ session. refl) parts whole.1,
  )

  pub fed_whole : (limit : ℕ) (block : List ℕ) (moment end : ℕ) → end ≡ end_in (session_of (kept_fed limit (live_in parts) mount block moment) mount)
      → AreWhole (max furthest end) (update_first (is_part_of mount) (with_session_changed (longer_kept limit block moment)) parts)
  fed_whole limit block moment end is = (
    subst (GoNoFurther (max furthest end)) (sym (session_changed mount (longer_kept limit block moment) parts whole.1 rising))
        (delivered_within furthest (live_in parts) whole.0 limit mount block moment end is),
    changed_named (is_part_of mount) (longer_kept limit block moment) (λ session. refl) parts whole.1,
  )

-- what the parts are seen as
abbrev pub shown : List Session → List MountAttachments → ByMount
shown live attached = record { live = live; attached = attached }

pub both_so : (live live' : List Session) (attached attached' : List MountAttachments) → live ≡ live' → attached ≡ attached' → shown live attached ≡ shown live' attached'
both_so live live' attached attached' one other = ap (λ sessions. shown sessions attached) one ∙ ap (shown live') other

module _ (mount : List ℕ) (parts : List MountPart) (rising : AreRising parts) (named : AreNamed parts) where
  pub ended_shown : by_mount_of (update_first (is_part_of mount) (with_session_in None) parts)
      ≡ with_live (without_session (live_in parts) mount) (by_mount_of parts)
  ended_shown = both_so _ _ _ _ (session_ended mount parts named rising) (attached_alike (is_part_of mount) (with_session_in None) (λ part. refl) parts)

  pub changed_shown : (f : Session → Session) → by_mount_of (update_first (is_part_of mount) (with_session_changed f) parts)
      ≡ with_live (update_first (is_of mount) f (live_in parts)) (by_mount_of parts)
  changed_shown f =
      both_so _ _ _ _ (session_changed mount f parts named rising) (attached_alike (is_part_of mount) (with_session_changed f) (λ part. refl) parts)

-- a session begins
module _ (session : Session) where
  abbrev its : MountPart → Bool
  its = is_part_of session.mount

  begun_named_at : (part : MountPart) (parts : List MountPart) (b : Bool) → its part ≡ b → AreNamed (part ∷ parts)
      → AreNamed (update_first its (with_session_in (Some session)) parts)
      → AreNamed (if b then with_session_in (Some session) part ∷ parts else part ∷ update_first its (with_session_in (Some session)) parts)
  begun_named_at part parts true is named later = (sym ((bytes_eq-Decides part.mount session.mount).0 is), named.1)
  begun_named_at part parts false is named later = (named.0, later)

  begun_named : (parts : List MountPart) → AreNamed parts → AreNamed (update_first its (with_session_in (Some session)) parts)
  begun_named [] named = tt
  begun_named (part ∷ parts) named = begun_named_at part parts (its part) refl named (begun_named parts named.1)

  module _ (parts : List MountPart) (rising : AreRising parts) (has : has_part (attached_in parts) session.mount ≡ true) where
    there : is_some (find its parts) ≡ true
    there = has_its_part session.mount parts ∙ has

    pub begun_whole : (furthest : ℕ) → AreWhole furthest parts
        → AreWhole (max furthest (end_of session.stream)) (update_first its (with_session_in (Some session)) parts)
    begun_whole furthest whole = (
      subst (GoNoFurther (max furthest (end_of session.stream))) (sym (session_begun session parts whole.1 rising there))
          (Each_placed (λ (x : Session). end_of x.stream ≤ max furthest (end_of session.stream)) by_mount session (live_in parts) (omega arith)
          (Each_each (λ (x : Session). end_of x.stream ≤ furthest) (λ (x : Session). end_of x.stream ≤ max furthest (end_of session.stream))
          (λ x within. omega (arith, within)) (live_in parts) whole.0)),
      begun_named parts whole.1,
    )

    pub begun_shown : AreNamed parts → by_mount_of (update_first its (with_session_in (Some session)) parts)
        ≡ with_live (with_session (live_in parts) session) (by_mount_of parts)
    begun_shown named = both_so _ _ _ _ (session_begun session parts named rising there) (attached_alike its (with_session_in (Some session)) (λ part. refl) parts)
