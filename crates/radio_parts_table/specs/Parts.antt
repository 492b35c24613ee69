-- The parts of the mounts, and the sessions among them.
use Rattle.std.specs.Prelude.{◌≡◌, ℕ, Bool, List, Option, None, Some, find, false, filter_map, map, min, is_some, Result, IfOk, OnOk, OnErr}
use Rattle.std.specs.declared.alloc.AllocError.{AllocError}
use Rattle.std.specs.Option.{option_map_or}
use Rattle.std.specs.Str.{bytes_eq}
use Rattle.radio_tables.specs.Lists.{Each}
use Rattle.radio_parts_mount.specs.Due.{session_due}
use Rattle.radio_parts_mount.specs.Kept.{longer_kept}
use Rattle.radio_parts_mount.specs.StatePart.{end_in}
use Rattle.radio_parts_mount.specs.Sessions.{Session}
use Rattle.radio_parts_mount.specs.Parts.{MountAttachments, attached_to, with_session_changed}
use Rattle.radio_parts_mount.specs.declared.part.MountPart.{MountPart}

-- the sessions of the mounts that are live, in the order of their names
abbrev pub live_in : List MountPart → List Session
live_in parts = filter_map (λ (part : MountPart). part.session) parts

-- the mount is live, and this holds of its session
abbrev pub has_session : (Session → Bool) → MountPart → Bool
has_session p part = option_map_or p part.session false

-- the moment at which the part's session is due, if its mount is live and that is earlier than this moment; else this moment
abbrev pub earlier_due : ℕ → ℕ → MountPart → ℕ
earlier_due seconds first part = option_map_or (λ session. min first (session_due seconds session)) part.session first

-- a session has the name of its mount
abbrev pub IsNamed : List ℕ → Option Session → Type 0
IsNamed mount None = Unit {0}
IsNamed mount (Some session) = session.mount ≡ mount

abbrev pub AreNamed : List MountPart → Type 0
AreNamed parts = Each (λ (part : MountPart). IsNamed part.mount part.session) parts

-- the mount's session, if it is live, has delivered the block at this moment, and the answer is where its stream ends then; or nothing has changed
abbrev pub IsDelivered : ℕ → List ℕ → ℕ → MountPart → Result ℕ AllocError → MountPart → Type 0
IsDelivered limit block moment part answer part' =
    (part'.mount ≡ part.mount) × OnOk answer (part' ≡ with_session_changed (longer_kept limit block moment) part)
    × IfOk answer (λ end. end ≡ end_in part'.session) × OnErr answer (part' ≡ part)

-- who is attached to each mount that has a part
abbrev pub attached_in : List MountPart → List MountAttachments
attached_in parts = map attached_to parts

-- what is kept by mount: the sessions of those that are live, in the order of their names, and who is attached to
-- each
pub record ByMount : Type 0 where
  pub live : List Session
  pub attached : List MountAttachments

abbrev pub by_mount_of : List MountPart → ByMount
by_mount_of parts = record { live = live_in parts; attached = attached_in parts }

-- with these sessions
abbrev pub with_live : List Session → ByMount → ByMount
with_live live parts = record parts { live = live }

-- somebody can be attached to the mount
abbrev pub has_part : List MountAttachments → List ℕ → Bool
has_part attached mount = is_some (find (λ (row : MountAttachments). bytes_eq row.mount mount) attached)
