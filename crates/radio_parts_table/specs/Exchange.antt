-- A part that takes the place of another of the same mount.
use Rattle.std.specs.Prelude.{◌≡◌, ◌⊎◌, refl, ◌==◌, ◌&&◌, Bool, true, false, ℕ, List, Option, None, Some, find, if◌then◌else◌}
use Rattle.std.specs.Str.{bytes_eq}
use Rattle.std.proofs.lemmas.Slice.Eq.{bytes_eq-Decides}
use Rattle.radio_parts_mount.specs.Sessions.{Session, session_of}
use Rattle.radio_parts_mount.specs.declared.part.MountPart.{MountPart}
use Rattle.radio_parts_table.specs.Agree.{AllAgree}
use Rattle.radio_parts_table.specs.Attached.{is_of_mount}
use Rattle.radio_parts_table.specs.Parts.{ByMount}
use Rattle.radio_parts_mount.specs.Parts.{attached_to}

-- the sessions are of one mount and one source
abbrev pub is_of_source : Session → Session → Bool
is_of_source a b = bytes_eq a.mount b.mount && (a.number == b.number)

-- neither mount is live, or both are by one source
abbrev pub same_source : Option Session → Option Session → Bool
same_source None None = true
same_source None (Some b) = false
same_source (Some a) None = false
same_source (Some a) (Some b) = is_of_source a b

-- the part can take the place of this one
abbrev pub can_replace : MountPart → MountPart → Bool
can_replace part row = bytes_eq part.mount row.mount && same_source part.session row.session

-- The part cannot take the place of its mount's: nobody feeds it, or another than who feeds the mount.
abbrev pub IsUnfit : MountPart → List Session → Type 0
IsUnfit part live = (part.session ≡ None) ⊎ (same_source part.session (session_of live part.mount) ≡ false)

-- what is in the place of this one then, and what is left
abbrev pub put_for : MountPart → MountPart → MountPart
put_for part row = if can_replace part row then part else row

abbrev pub left_for : MountPart → MountPart → MountPart
left_for part row = if can_replace part row then row else part

-- its mount stays
pub same_name : (a b : List ℕ) → bytes_eq a b ≡ true → a ≡ b
same_name a b e = (bytes_eq-Decides a b).0 e

pub first_true : (b c : Bool) → (b && c) ≡ true → b ≡ true
first_true true c e = refl
first_true false c e = cc

pub second_true : (b c : Bool) → (b && c) ≡ true → c ≡ true
second_true true c e = e
second_true false c e = cc

pub of_mount : (part row : MountPart) → can_replace part row ≡ true → part.mount ≡ row.mount
of_mount part row e = same_name part.mount row.mount (first_true (bytes_eq part.mount row.mount) (same_source part.session row.session) e)

pub keeps_mount : (part row : MountPart) → (put_for part row).mount ≡ row.mount
keeps_mount part row = mount_at (can_replace part row) refl where
  mount_at : (b : Bool) → can_replace part row ≡ b → (if b then part else row).mount ≡ row.mount
  mount_at true e = of_mount part row e
  mount_at false e = refl

-- a session stays, or this one, of the same mount and source, takes its place
pub data IsInPlace (its : Option Session) (a b : Session) : Type 0 where
  Stays : a ≡ b → IsInPlace its a b
  Comes : its ≡ Some b → is_of_source b a ≡ true → IsInPlace its a b

-- The part is in the place of what was there, and all else is as before.
pub record IsExchanged (part there : MountPart) (before after : ByMount) : Type 0 where
  pub sessions : AllAgree (IsInPlace part.session) before.live after.live
  pub session : session_of after.live part.mount ≡ part.session
  pub attached : find (is_of_mount part.mount) after.attached ≡ Some (attached_to part)
  pub elsewhere : (mount : List ℕ) → bytes_eq part.mount mount ≡ false → find (is_of_mount mount) after.attached ≡ find (is_of_mount mount) before.attached
  -- and what was there is what is returned
  pub mount : there.mount ≡ part.mount
  pub was_live : there.session ≡ session_of before.live part.mount
  pub was_attached : find (is_of_mount part.mount) before.attached ≡ Some (attached_to there)
